-- Inputs, and what is said to them, with a work area of so many bytes and an answer area of so many: the files whose places are filled, or the number that refuses
-- the call. By `SomeOutcome` and `OneOutcome` this is the outcome.
use Rattle.std.specs.Prelude.{◌≡◌, [], ◌∷◌, replicate, Ok}
use Rattle.std.proofs.Math.Option.{some}
use Rattle.class.specs.Outcome.{number_of}
use Rattle.class.specs.Computed.{call_of, answer_of}

pub record TriedClasses : Type 0 where
  -- a class of none, which needs no room
  pub none : call_of [] 65536 0 ≡ Ok []
  -- a file of no bytes, and one of three
  pub two : call_of (0 ∷ 0 ∷ 3 ∷ 0 ∷ 7 ∷ 8 ∷ 9 ∷ []) 65536 260 ≡ Ok ([] ∷ (7 ∷ 8 ∷ 9 ∷ []) ∷ [])
  -- "little_endian": 256 bytes are due, and there is one
  pub little_endian : number_of (answer_of (call_of (0 ∷ 1 ∷ 7 ∷ []) 65536 130)) ≡ some 19
  -- a cut length, and a cut file
  pub cut_length : number_of (answer_of (call_of (1 ∷ 0 ∷ 7 ∷ 0 ∷ []) 65536 260)) ≡ some 19
  pub cut_file : number_of (answer_of (call_of (2 ∷ 0 ∷ 7 ∷ []) 65536 130)) ≡ some 19
  -- sixteen files, each of no bytes; seventeen; and a seventeenth that is cut
  pub sixteen : call_of (replicate 32 0) 65536 2080 ≡ Ok (replicate 16 [])
  pub seventeen : number_of (answer_of (call_of (replicate 34 0) 65536 2210)) ≡ some 19
  pub seventeenth_cut : number_of (answer_of (call_of (replicate 33 0) 65536 2210)) ≡ some 19
  -- 20 for a byte too few, and 19 before it
  pub no_room : number_of (answer_of (call_of (replicate 32 0) 65536 2079)) ≡ some 20
  pub first_cut : number_of (answer_of (call_of (replicate 33 0) 65536 0)) ≡ some 19
  -- 10 before both
  pub no_work : number_of (answer_of (call_of (replicate 33 0) 65535 0)) ≡ some 10
