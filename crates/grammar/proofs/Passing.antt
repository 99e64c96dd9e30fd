-- A part of the grammar passes, and its postfix bytes are as many as its tokens' weights.
use mathlib.Core.Path.{◌≡◌, refl}
use mathlib.Core.Bool.{true, false}
use mathlib.Core.List.{List, [], ◌∷◌, ◌++◌, append_assoc, append-nil}
use Prim.Native.Nat.{ℕ, suc, ◌+◌}
use native.Mathlib.Omega.{arith}
use lib.ListN.{length, length-append}
use Rattle.grammar.specs.Token.{Token, operator, implies, closing, byte, not_byte, or}
use Rattle.grammar.specs.Grammar as g
use Rattle.grammar.specs.Grammar.{Part, Level}
use Rattle.grammar.specs.Typed.{deepest}
use Rattle.grammar.specs.Passes as p
use Rattle.grammar.specs.Passes.{Passes, weights}

-- a part leads from an operand that is due to an operator that is due
passes_join : (k : ℕ) (t : Token) (s u rest : List Token) → Passes true k (s ++ (t ∷ (u ++ rest))) → Passes true k ((s ++ (t ∷ u)) ++ rest)
passes_join k t s u rest x = rw (append_assoc s (t ∷ u) rest) x

passes : {l : Level} {d : ℕ} {s : List Token} {q : List ℕ} → Part l d s q → (k : ℕ) (rest : List Token) → k + d ≡ deepest → Passes false k rest → Passes true k (s ++ rest)
passes (g.action h) k rest e y = p.action h y
passes (g.bracket {s = s} x) k rest e y = p.opened {k = k} (omega arith) (passes_join (suc k) closing s [] rest (passes x (suc k) (closing ∷ rest) (omega arith) (p.closed y)))
passes (g.negated x) k rest e y = p.negated (passes x k rest e y)
passes (g.plain x) k rest e y = passes x k rest e y
passes (g.joined {o = o} {s = s} {t = t} x z) k rest e y = passes_join k (operator o) s t rest (passes x k (operator o ∷ (t ++ rest)) e (p.joined (passes z k rest e y)))
passes (g.single x) k rest e y = passes x k rest e y
passes (g.if_then {s = s} {t = t} x z) k rest e y = passes_join k implies s t rest (passes x k (implies ∷ (t ++ rest)) e (p.implied (passes z k rest e y)))
passes (g.no_implies x) k rest e y = passes x k rest e y

pub whole_passes : {ts : List Token} {q : List ℕ} → Part g.implication deepest ts q → Passes true 0 ts
whole_passes {ts} x = rw (append-nil ts) at (passes x 0 [] refl p.end)

-- the weights are the postfix bytes
weights_append : (s t : List Token) → weights (s ++ t) ≡ weights s + weights t
unfolding weights
weights_append [] t = omega arith
weights_append (x ∷ s) t = let e = weights_append s t in omega arith

pub weighs : {l : Level} {d : ℕ} {s : List Token} {q : List ℕ} → Part l d s q → length q ≡ weights s
unfolding weights
weighs (g.action h) = refl
weighs (g.bracket {s = s} x) = let a = weighs x in let b = weights_append s (closing ∷ []) in omega arith
weighs (g.negated {p = q} x) = let a = weighs x in let b = length-append q (not_byte ∷ []) in omega arith
weighs (g.plain x) = weighs x
weighs (g.joined {o = o} {s = s} {t = t} {p = q} {q = w} x z) =
    let a = weighs x in let b = weighs z in let c = weights_append s (operator o ∷ t) in let d = length-append q (w ++ (byte o ∷ [])) in let e = length-append w (byte o ∷ []) in omega arith
weighs (g.single x) = weighs x
weighs (g.if_then {s = s} {t = t} {p = q} {q = w} x z) =
    let a = weighs x in
    let b = weighs z in
    let c = weights_append s (implies ∷ t) in
    let d = length-append (q ++ (not_byte ∷ [])) (w ++ (byte or ∷ [])) in
    let e = length-append q (not_byte ∷ []) in
    let f = length-append w (byte or ∷ []) in
    omega arith
weighs (g.no_implies x) = weighs x
