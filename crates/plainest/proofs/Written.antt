-- The record bytes as they are written: with each entry the bytes are those of the run so far, and what is left to write are the entries after it.
use mathlib.Core.Path.{◌≡◌, refl, sym, ap, ◌∙◌}
use mathlib.Core.Bool.{Bool, true, false, cond}
use mathlib.Core.List.{List, [], ◌∷◌, ◌++◌, map, map-append, append_assoc, append-nil}
use Prim.Native.Nat.{ℕ, zero, suc, ◌+◌, ◌-◌, ◌*◌, ◌<◌}
use native.Mathlib.Omega.{arith}
use Rattle.std.proofs.Common.{Option, None, Some}
use lib.ListN.{length, set, replicate, length-append}
use lib.Seq.{set_at}
use Rattle.process.specs.Process.{entry, Run}
use Rattle.nodes.specs.Nodes.{count}
use Rattle.state.specs.State.{is_next, told_by, fresh_table}
use Rattle.state.specs.declared.Entry.{Entry}
use Rattle.job.specs.Offer.{status_number, status_of, run_entry}
use Rattle.plainest.specs.Bytes.{encode, record_bytes}
use Rattle.plainest.specs.Shown.{fits, or_later, entry_from, next_entry, entries_after, with_entry}
use Rattle.plainest.proofs.Order.{encode_length}

encode_append : (p q : Run) → encode (p ++ q) ≡ encode p ++ encode q
encode_append [] q = refl
encode_append (entry n s ∷ p) q = simp (encode_append p q)

-- two bytes after u, over zeros
two_written : (u : List ℕ) (n o m : ℕ) → 126 - length u ≡ suc (suc m) → set (set (u ++ replicate (126 - length u) 0) (length u) n) (length u + 1) o ≡ (u ++ (n ∷ o ∷ [])) ++ replicate m 0
two_written u n o m e =
    let z : List ℕ = replicate m 0 in
    let first : set (u ++ replicate (126 - length u) 0) (length u) n ≡ u ++ (n ∷ 0 ∷ z) = rw e (set_at u 0 (0 ∷ z) n (length u) refl) in
    let long : length (u ++ (n ∷ [])) ≡ length u + 1 = length-append u (n ∷ []) in
    let second : set ((u ++ (n ∷ [])) ++ (0 ∷ z)) (length u + 1) o ≡ (u ++ (n ∷ [])) ++ (o ∷ z) = set_at (u ++ (n ∷ [])) 0 z o (length u + 1) long in
    rw first (ap (λ (x : List ℕ). set x (length u + 1) o) (sym (append_assoc u (n ∷ []) (0 ∷ z))) ∙ second ∙ append_assoc u (n ∷ []) (o ∷ z) ∙ sym (append_assoc u (n ∷ o ∷ []) z))

-- an entry with a status more
pub entry_written : (w : Run) (i : ℕ) (e : Entry) → length w ≡ i → i < 63 → e.outcome ≡ status_number (status_of e.outcome) → with_entry (record_bytes w) i e ≡ record_bytes (w ++ (run_entry e ∷ []))
entry_written w i e h l s =
    let n = e.leaf in
    let o = e.outcome in
    let u = encode w in
    let long : length u ≡ 2 * i = omega (arith, encode_length w) in
    let m = 124 - length u in
    let more : encode (w ++ (run_entry e ∷ [])) ≡ u ++ (n ∷ o ∷ []) = encode_append w (run_entry e ∷ []) ∙ rw (← s) in
    let left : 126 - length (u ++ (n ∷ o ∷ [])) ≡ m = omega (arith, length-append u (n ∷ o ∷ [])) in
    rw (more, left, ← long) (two_written u n o m (omega arith))

-- what a next entry is: of a leaf below a bound, with a status
pub record Proper (bound : ℕ) (e : Entry) : Type 0 where
  pub low : e.leaf < bound
  pub status : e.outcome ≡ status_number (status_of e.outcome)

abbrev ProperIf : ℕ → Option Entry → Type 0
ProperIf bound (Some e) = Proper bound e
ProperIf bound None = Unit {0}

module _ (types b : List ℕ) (S k : ℕ) where
  proper : (table : List ℕ) (next n m bound : ℕ) → n + m ≡ bound → ProperIf bound (entry_from types b S k table next n m)
  unfolding entry_from
  proper table next n zero bound e = tt
  proper table next n (suc m) bound e = go (is_next next n) (fits types b S k table n 1) (fits types b S k table n 2) (proper table next (suc n) m bound (omega arith))
    where
      go : (x y z : Bool) → ProperIf bound (entry_from types b S k table next (suc n) m)
          → ProperIf bound (or_later types b S k n (cond x (cond y (Some 1) (cond z (Some 2) None)) None) (entry_from types b S k table next (suc n) m))
      go true true z h = record { low = omega arith; status = refl }
      go true false true h = record { low = omega arith; status = refl }
      go true false false h = h
      go false y z h = h

  pub next_proper : (table : List ℕ) (e : Entry) → next_entry types b S k table ≡ Some e → Proper (count b) e
  next_proper table e h = rw h at (proper table (told_by b table).next 0 (count b) (count b) (omega arith))

  -- so many entries are written, and these are to come
  pub record Written (i : ℕ) (table run : List ℕ) : Type 0 where
    pub so_far : List Entry
    pub many : length (map run_entry so_far) ≡ i
    pub bytes : run ≡ record_bytes (map run_entry so_far)
    pub rest : entries_after types b S k 63 fresh_table ≡ so_far ++ entries_after types b S k (63 - i) table

  pub written_none : (run : List ℕ) → run ≡ replicate 126 0 → Written 0 fresh_table run
  written_none run e = record { so_far = []; many = refl; bytes = e; rest = refl }

  module _ (i : ℕ) (table run : List ℕ) (w : Written i table run) where
    -- the end
    pub written_all : entries_after types b S k (63 - i) table ≡ [] → run ≡ record_bytes (map run_entry (entries_after types b S k 63 fresh_table))
    written_all e =
        let all : entries_after types b S k 63 fresh_table ≡ w.so_far = w.rest ∙ ap (λ (es : List Entry). w.so_far ++ es) e ∙ append-nil w.so_far in
        rw all w.bytes

    pub none_more : i < 63 → next_entry types b S k table ≡ None → entries_after types b S k (63 - i) table ≡ []
    unfolding entries_after
    none_more l e = let z : 63 - i ≡ suc (62 - i) = omega arith in rw (z, e)

    -- one more
    pub written_more : (e : Entry) → i < 63 → next_entry types b S k table ≡ Some e → Written (i + 1) (set table e.leaf e.outcome) (with_entry run i e)
    unfolding entries_after
    written_more e l h =
        let p = next_proper table e h in
        let z : 63 - i ≡ suc (63 - (i + 1)) = omega arith in
        let runs : map run_entry (w.so_far ++ (e ∷ [])) ≡ map run_entry w.so_far ++ (run_entry e ∷ []) = map-append run_entry w.so_far (e ∷ []) in
        let long : length (map run_entry w.so_far ++ (run_entry e ∷ [])) ≡ length (map run_entry w.so_far) + 1 = length-append (map run_entry w.so_far) (run_entry e ∷ []) in
        record {
          so_far = w.so_far ++ (e ∷ []);
          many = rw runs (omega (arith, long, w.many));
          bytes = rw (runs, w.bytes) (entry_written (map run_entry w.so_far) i e w.many l p.status);
          rest = w.rest ∙ rw (z, h) (sym (append_assoc w.so_far (e ∷ []) _));
        }
