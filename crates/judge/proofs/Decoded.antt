-- The run in a record's bytes is the one that was written there, entry by entry.
use mathlib.Core.Path.{◌≡◌, refl, ap, ◌∙◌}
use mathlib.Core.List.{List, [], ◌∷◌, ◌++◌, map}
use Prim.Native.Nat.{ℕ, zero, suc, ◌-◌}
use lib.ListN.{length, replicate}
use Rattle.process.specs.Process.{ok, fail, entry, Run}
use Rattle.state.specs.declared.Entry as bytes
use Rattle.job.specs.Offer.{run_entry}
use Rattle.job.specs.Lists.{offered}
use Rattle.job.proofs.TakesAll.{offered_back}
use Rattle.plainest.specs.Bytes.{encode, record_bytes}
use Rattle.judge.specs.Shown.{shown_entries, shown_run}

zeros_shown : (m : ℕ) → shown_entries (replicate m 0) ≡ []
unfolding shown_entries
zeros_shown zero = refl
zeros_shown (suc zero) = refl
zeros_shown (suc (suc m)) = refl

shown_encoded : (w : Run) (m : ℕ) → shown_entries (encode w ++ replicate m 0) ≡ map offered w
unfolding shown_entries
shown_encoded [] m = zeros_shown m
shown_encoded (entry n ok ∷ w) m = ap (λ (es : List bytes.Entry). record { leaf = n; outcome = 1 } ∷ es) (shown_encoded w m)
shown_encoded (entry n fail ∷ w) m = ap (λ (es : List bytes.Entry). record { leaf = n; outcome = 2 } ∷ es) (shown_encoded w m)

pub shown_offered : (w : Run) → shown_entries (record_bytes w) ≡ map offered w
shown_offered w = shown_encoded w (126 - length (encode w))

pub shown_back : (w : Run) → shown_run (record_bytes w) ≡ w
shown_back w = ap (map run_entry) (shown_offered w) ∙ offered_back w
