-- Figure 2 of the report (TR-070011), line by line, as document 02 amends it, over runs whose entries name their leaf. `Forward P r s U` is
-- the report's (r⟨s⟩, U) ∈ Π(P): P runs r forward, with the status s, and U is its undo (the report's compensation process).
-- `Complete P r s` is r⟨s⟩ ∈ ⟦P⟧: a complete run of P. Nothing here limits how deep undos go.
--
-- Document 02 (N6) takes the last two sets of the report's rule for P ∥ Q away: both sides begin. An undo P' ∥ Q' is a process like any
-- other, so its branches both begin too.
use Rattle.std.specs.Prelude.{[], ◌∷◌, ◌++◌, ◌≡◌, ℕ}
use Rattle.process.specs.Process.{Status, ok, fail, Kind, Permits, sequence, parallel, choice, compensation, handler, Process, done, leaf, node, Entry, entry, Run}

-- The report's s & t.
abbrev pub both : Status → Status → Status
both ok t = t
both fail t = fail

-- The report's r ∈ p ⋈ q: r is an interleaving of p and q.
pub data Interleaving : Run → Run → Run → Type 0 where
  neither : Interleaving [] [] []
  from_left : {e : Entry} {p q r : Run} → Interleaving p q r → Interleaving (e ∷ p) q (e ∷ r)
  from_right : {e : Entry} {p q r : Run} → Interleaving p q r → Interleaving p (e ∷ q) (e ∷ r)

mutual
  pub data Forward : Process → Run → Status → Process → Type 0 where
    -- the undo of a leaf: nothing, and it succeeds
    f_done : Forward done [] ok done
    -- Γ ⊢ A : {✓, ×}, {✓}, {×}: (A⟨✓⟩, skip) where ✓ is permitted, (A⟨×⟩, skip) where × is
    f_leaf : {n : ℕ} {k : Kind} {s : Status} → Permits k s → Forward (leaf n k) (entry n s ∷ []) s done
    -- P ; Q, first set: (pq⟨s⟩, Q' ; P') for (p⟨✓⟩, P') ∈ Π(P), (q⟨s⟩, Q') ∈ Π(Q)
    f_sequence : {P Q P' Q' : Process} {p q r : Run} {s : Status} → Forward P p ok P' → Forward Q q s Q' → p ++ q ≡ r → Forward (node sequence P Q) r s (node sequence Q' P')
    -- P ; Q, second set: (p⟨×⟩, P') ∈ Π(P)
    f_sequence_fails : {P Q P' : Process} {p : Run} → Forward P p fail P' → Forward (node sequence P Q) p fail P'
    -- P ∥ Q, the first set and, by N6, the only one: (r⟨s & t⟩, P' ∥ Q') for r ∈ p ⋈ q, (p⟨s⟩, P') ∈ Π(P), (q⟨t⟩, Q') ∈ Π(Q)
    f_parallel : {P Q P' Q' : Process} {p q r : Run} {s t u : Status} → Forward P p s P' → Forward Q q t Q' → Interleaving p q r → both s t ≡ u → Forward (node parallel P Q) r u (node parallel P' Q')
    -- P □ Q, first set: (p⟨s⟩, P') ∈ Π(P)
    f_choice_left : {P Q P' : Process} {p : Run} {s : Status} → Forward P p s P' → Forward (node choice P Q) p s P'
    -- P □ Q, second set: (q⟨t⟩, Q') ∈ Π(Q)
    f_choice_right : {P Q Q' : Process} {q : Run} {t : Status} → Forward Q q t Q' → Forward (node choice P Q) q t Q'
    -- P ÷ Q, first set: (p⟨✓⟩, Q) for (p⟨✓⟩, P') ∈ Π(P)
    f_compensation : {P Q P' : Process} {p : Run} → Forward P p ok P' → Forward (node compensation P Q) p ok Q
    -- P ÷ Q, second set: (p⟨×⟩, P') ∈ Π(P)
    f_compensation_fails : {P Q P' : Process} {p : Run} → Forward P p fail P' → Forward (node compensation P Q) p fail P'
    -- P ▷ Q, first set: (p⟨✓⟩, P') ∈ Π(P)
    f_handler : {P Q P' : Process} {p : Run} → Forward P p ok P' → Forward (node handler P Q) p ok P'
    -- P ▷ Q, second set: (pp'q⟨t⟩, Q') for pp'⟨×⟩ ∈ ⟦P⟧, (q⟨t⟩, Q') ∈ Π(Q), with pp'⟨×⟩ written out as ⟦P⟧ has it below
    f_handler_fails : {P Q P' Q' : Process} {p p' q r : Run} {s t : Status} → Forward P p fail P' → Complete P' p' s → Forward Q q t Q' → p ++ (p' ++ q) ≡ r → Forward (node handler P Q) r t Q'

  pub data Complete : Process → Run → Status → Type 0 where
    -- ⟦P⟧, first set: p⟨✓⟩ for (p⟨✓⟩, P') ∈ Π(P); the undo is dropped
    c_ok : {P P' : Process} {p : Run} → Forward P p ok P' → Complete P p ok
    -- ⟦P⟧, second set: pp'⟨×⟩ for (p⟨×⟩, P') ∈ Π(P), p'⟨s⟩ ∈ ⟦P'⟧
    c_fail : {P P' : Process} {p p' r : Run} {s : Status} → Forward P p fail P' → Complete P' p' s → p ++ p' ≡ r → Complete P r fail
