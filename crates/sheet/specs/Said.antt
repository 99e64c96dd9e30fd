-- What a place of a class's answer area says: "a byte (0 consistent, 1 violated, 2 refused), two bytes of set or refusal number, a byte counting
-- entries, and the 126 record bytes".
use Rattle.std.specs.Prelude.{◌≡◌, cond, List, [], ℕ, eqb, ltb, length, get_or, take, drop, Result, Ok, Err}
use Rattle.blocks.specs.Block.{le16}
use Rattle.judge.specs.Verdict.{record_size, told}
use Rattle.judge.specs.declared.Judgement.{Judgement}
use Rattle.judge.specs.declared.Judgement.TheVariants.{Consistent, Violated}
use Rattle.place.specs.Place.{place_size, Placed}

abbrev pub judgement_in : List ℕ → Result Judgement ℕ
judgement_in p = cond (eqb (get_or p 0 0) 0) (Ok Consistent) (cond (eqb (get_or p 0 0) 1) (Ok (Violated (le16 p 1))) (Err (get_or p 1 0)))

abbrev pub run_in : List ℕ → List ℕ
run_in p = take record_size (drop 4 p)

-- Fewer bytes than a place has say nothing.
abbrev pub said_by : (List ℕ → List ℕ) → List ℕ → List ℕ
said_by text p = cond (ltb (length p) place_size) [] (text p)

-- So a plan's place says its verdict and its run, of every file. The proof is `place_says`.
abbrev pub PlaceSays : Type 0
PlaceSays = (f p : List ℕ) (x : Placed f p) → (judgement_in p ≡ told x.verdict) × (run_in p ≡ x.shown)
