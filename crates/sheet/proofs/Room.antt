-- Where a call fills places, the answer area has them all: for who reads them.
use mathlib.Core.Path.{◌≡◌, subst}
use mathlib.Core.List.{List}
use Prim.Native.Nat.{ℕ, ◌*◌, ◌≤◌}
use native.Mathlib.Omega.{arith}
use lib.ListN.{length}
use Rattle.place.specs.Place.{place_size}
use Rattle.handed.specs.Files.{most_files}
use Rattle.class.specs.Outcome.{Answer, AllFilled, Outcome}
use Rattle.std.specs.Prelude.{Ok}
use Rattle.class.proofs.Promises.{promised}

pub filled_room : (s work work' old new : List ℕ) (a : Answer) (n : ℕ) → Outcome s work work' old new a → a ≡ Ok n → (n ≤ most_files) × (place_size * n ≤ length new)
filled_room s work work' old new a n x e =
    let y : AllFilled s work work' old new n = subst (λ (b : Answer). Outcome s work work' old new b) e x in
    let long = (promised s work work' old new a x).long in
    let few = y.class.few in
    let room = y.room in
    let count = y.counted in
    (omega arith, omega arith)
