-- On every input there is one outcome: no two differ, and the one that is computed is one.
use mathlib.Core.Path.{◌≡◌, refl, sym, ap, ap₂, subst, ◌∙◌}
use mathlib.Core.Bool.{Bool, true, false, cond}
use mathlib.Core.List.{List, ◌++◌, map}
use mathlib.Core.Option.{Option, none, some}
use Prim.Native.Nat.{ℕ, ◌*◌, ◌≤◌}
use native.Mathlib.Omega.{arith}
use lib.Dec.{ltb}
use lib.ListN.{length, drop}
use borrow.Author.Tests.{ltb-true, ltb-false}
use Rattle.judge.specs.Verdict.{work_size}
use Rattle.judge.specs.Judged.{cleared_work}
use Rattle.handed.specs.Files.{most_files, Class}
use Rattle.place.specs.Place.{place_size, place_for, Places, joined}
use Rattle.handed.specs.Cursor.{Counted}
use Rattle.class.specs.Steps.{PlacesAfter}
use Rattle.class.specs.Outcome.{RefusedBy, no_work, no_class, no_room, Unchanged, AllFilled, Outcome, Same, OneOutcome}
use Rattle.handed.specs.Reading.{files_of}
use Rattle.class.specs.Computed.{with_room, answer_of, work_of, area_of, SomeOutcome}
use Rattle.std.specs.Prelude.{Result, Ok, Err}
use Rattle.class.specs.declared.Refusal.{Refusal}
use Rattle.class.specs.declared.Refusal.TheVariants.{WorkArea, Files, AnswerArea}
use Rattle.handed.proofs.Files.{one_list}
use Rattle.handed.proofs.Reading.{files_held, files_few, no_files}
use Rattle.place.proofs.Lists.{one_places, some_places}

-- the areas after all places are filled
pub all_filled : (s work work' old new : List ℕ) (n : ℕ) → Counted s n → work_size ≤ length work → place_size * n ≤ length old → work' ≡ cleared_work work → PlacesAfter s old new → AllFilled s work work' old new n
all_filled s work work' old new n k enough room w p =
    let e : length k.files ≡ length p.files = ap length (one_list s k.files p.files k.class.holds p.holds) in
    record {
      files = p.files;
      class = record { holds = p.holds; few = omega (arith, k.class.few) };
      counted = k.count ∙ e;
      enough = enough;
      room = omega (arith, k.count);
      places = p.places;
      placed = p.placed;
      works = w;
      answers = p.is;
    }

-- why a call is refused is settled, and where one does no place is filled
module _ (s : List ℕ) (work room : ℕ) where
  class_twice : (files others : List (List ℕ)) → Class s files → Class s others → length files ≡ length others
  class_twice files others a b = ap length (one_list s files others a.holds b.holds)

  pub one_refusal : (m n : Refusal) → RefusedBy s work room m → RefusedBy s work room n → m ≡ n
  one_refusal m n (no_work h) (no_work k) = refl
  one_refusal m n (no_work h) (no_class k none_held) = absurd (omega arith)
  one_refusal m n (no_work h) (no_room k fs c r) = absurd (omega arith)
  one_refusal m n (no_class h none_held) (no_work k) = absurd (omega arith)
  one_refusal m n (no_class h none_held) (no_class k others) = refl
  one_refusal m n (no_class h none_held) (no_room k fs c r) = absurd (none_held fs c)
  one_refusal m n (no_room h fs c r) (no_work k) = absurd (omega arith)
  one_refusal m n (no_room h fs c r) (no_class k none_held) = absurd (none_held fs c)
  one_refusal m n (no_room h fs c r) (no_room k gs d q) = refl

  pub not_refused : (n : Refusal) (files : List (List ℕ)) → Class s files → work_size ≤ work → place_size * length files ≤ room → RefusedBy s work room n → ⊥
  not_refused n files c enough fits (no_work h) = omega arith
  not_refused n files c enough fits (no_class h none_held) = none_held files c
  not_refused n files c enough fits (no_room h gs d r) = omega (arith, class_twice files gs c d)

module _ (s work work' work'' old new new' : List ℕ) where
  same_filled : (m n : ℕ) → AllFilled s work work' old new m → AllFilled s work work'' old new' n → Same (Ok m) (Ok n) work' work'' new new'
  same_filled m n x y =
      let e = one_list s x.files y.files x.class.holds y.class.holds in
      let p : x.places ≡ y.places = one_places x.files x.places y.places x.placed (subst (λ (fs : List (List ℕ)). Places fs y.places) (sym e) y.placed) in
      record {
        answers = ap Ok (x.counted ∙ ap length e ∙ sym y.counted);
        works = x.works ∙ sym y.works;
        areas = x.answers ∙ ap₂ (λ (ps fs : List (List ℕ)). joined ps ++ drop (place_size * length fs) old) p e ∙ sym y.answers;
      }

  same_refused : (m n : Refusal) → Unchanged s work work' old new m → Unchanged s work work'' old new' n → Same (Err m) (Err n) work' work'' new new'
  same_refused m n x y = record {
    answers = ap Err (one_refusal s (length work) (length old) m n x.why y.why);
    works = x.works ∙ sym y.works;
    areas = x.answers ∙ sym y.answers;
  }

  never_both : (m : ℕ) (n : Refusal) (w r : List ℕ) (w' r' : List ℕ) → AllFilled s work w old r m → Unchanged s work w' old r' n → ⊥
  never_both m n w r w' r' x y = not_refused s (length work) (length old) n x.files x.class x.enough x.room y.why

pub one_outcome : OneOutcome
one_outcome s work work' work'' old new new' (Ok m) (Ok n) x y = same_filled s work work' work'' old new new' m n x y
one_outcome s work work' work'' old new new' (Ok m) (Err n) x y = absurd (never_both s work work' work'' old new new' m n work' new work'' new' x y)
one_outcome s work work' work'' old new new' (Err m) (Ok n) x y = absurd (never_both s work work' work'' old new new' n m work'' new' work' new y x)
one_outcome s work work' work'' old new new' (Err m) (Err n) x y = same_refused s work work' work'' old new new' m n x y

-- the outcome that is computed
pub some_outcome : SomeOutcome
some_outcome s work old = go (ltb (length work) work_size) refl
  where
    Met : Result (List (List ℕ)) Refusal → Type 0
    Met x = Outcome s work (work_of x work) old (area_of x old) (answer_of x)

    refused : (r : Refusal) → RefusedBy s (length work) (length old) r → Met (Err r)
    refused r why = record { why = why; works = refl; answers = refl }

    sized : work_size ≤ length work → (fs : List (List ℕ)) → Class s fs → (b : Bool) → ltb (length old) (place_size * length fs) ≡ b → Met (cond b (Err AnswerArea) (Ok fs))
    sized w fs c true e = refused AnswerArea (no_room w fs c (ltb-true (length old) (place_size * length fs) e))
    sized w fs c false e = record {
      files = fs;
      class = c;
      counted = refl;
      enough = w;
      room = ltb-false (length old) (place_size * length fs) e;
      places = map place_for fs;
      placed = some_places fs;
      works = refl;
      answers = refl;
    }

    classed : work_size ≤ length work → (x : Option (List (List ℕ))) → files_of most_files s ≡ x → Met (with_room (length old) x)
    classed w none e = refused Files (no_class w (λ fs c. no_files most_files s e fs c.holds c.few))
    classed w (some fs) e = sized w fs (record { holds = files_held most_files s fs e; few = files_few most_files s fs e }) (ltb (length old) (place_size * length fs)) refl

    go : (b : Bool) → ltb (length work) work_size ≡ b → Met (cond b (Err WorkArea) (with_room (length old) (files_of most_files s)))
    go true e = refused WorkArea (no_work (ltb-true (length work) work_size e))
    go false e = classed (ltb-false (length work) work_size e) (files_of most_files s) refl
