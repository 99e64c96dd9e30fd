-- A leaf's summary: five families with its set or the empty set alone, and six with none.
use mathlib.Core.Path.{refl}
use mathlib.Core.Bool.{Bool}
use mathlib.Core.List.Memᴰ
use mathlib.Core.List.{List}
use Prim.Native.Nat.{ℕ, ◌<◌}
use Rattle.family.specs.Family.{In, Empty}
use Rattle.family.proofs.Words.{none_empty}
use Rattle.summary.specs.declared.Summary.{Summary}
use Rattle.outcomes.specs.Families.{LeafSet, not_run, finished, failed}
use Rattle.outcomes.specs.ThreeLevels.{three_levels}
use Rattle.summary.specs.Summary.{family_of, Only, LeafSummary}
use Rattle.summary.proofs.Codes.{any_code, empty_set_lem, no_words}

module _ (set : ℕ) (finishes fails : Bool) (done undone none : List ℕ) (p : Only set finishes done) (q : Only 0 fails undone) (e : Empty none) where
  abbrev leaf_of : Summary
  leaf_of = record { s1 = done; s2 = done; s3 = done; s4 = none; s6 = none; s7 = none; s9 = undone; s10 = undone; s11 = none; s13 = none; s14 = none }

  sound : (code t : ℕ) → In (family_of leaf_of code) t → LeafSet three_levels 0 set finishes fails code t
  sound code t =
      any_code (λ code f. In f t → LeafSet three_levels 0 set finishes fails code t) leaf_of (λ on. not_run refl (empty_set_lem.sound t on).0)
      (λ on. finished (p.sound t on).0 (Memᴰ.head refl) (p.sound t on).1)
      (λ on. finished (p.sound t on).0 (Memᴰ.tail (Memᴰ.head refl)) (p.sound t on).1)
      (λ on. finished (p.sound t on).0 (Memᴰ.tail (Memᴰ.tail (Memᴰ.head refl))) (p.sound t on).1)
      (λ on. absurd (e t on))
      (λ on. absurd (e t on))
      (λ on. absurd (e t on))
      (λ on. failed (q.sound t on).0 (Memᴰ.head refl) (q.sound t on).1)
      (λ on. failed (q.sound t on).0 (Memᴰ.tail (Memᴰ.head refl)) (q.sound t on).1)
      (λ on. absurd (e t on))
      (λ on. absurd (e t on))
      (λ on. absurd (e t on))
      (λ code u on. absurd (none_empty t on))
      (λ code l on. absurd (no_words t on))
      code

  complete : {code t : ℕ} → t < 1024 → LeafSet three_levels 0 set finishes fails code t → In (family_of leaf_of code) t
  complete l (not_run c z) = rw (c, z) (empty_set_lem.complete (rw z at l))
  complete l (finished m (Memᴰ.head c) z) = rw (c, z) (p.complete m (rw z at l))
  complete l (finished m (Memᴰ.tail (Memᴰ.head c)) z) = rw (c, z) (p.complete m (rw z at l))
  complete l (finished m (Memᴰ.tail (Memᴰ.tail (Memᴰ.head c))) z) = rw (c, z) (p.complete m (rw z at l))
  complete l (finished m (Memᴰ.tail (Memᴰ.tail (Memᴰ.tail c))) z) = elim c [ ]
  complete l (failed m (Memᴰ.head c) z) = rw (c, z) (q.complete m (rw z at l))
  complete l (failed m (Memᴰ.tail (Memᴰ.head c)) z) = rw (c, z) (q.complete m (rw z at l))
  complete l (failed m (Memᴰ.tail (Memᴰ.tail c)) z) = elim c [ ]

  pub leaf_summary : LeafSummary set finishes fails leaf_of
  leaf_summary = record { sound = sound; complete = λ code t. complete }
