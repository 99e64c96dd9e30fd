-- All complete runs of the starred plans whose verdict is a violation, from Figure 2: each derivation is taken apart to its leaves.
use mathlib.Core.Path.{◌≡◌, refl, sym, ap, ◌∙◌}
use mathlib.Core.Bool.{false≢true}
use mathlib.Core.List.{List, [], ◌∷◌, ◌++◌, append-nil, Memᴰ}
use Prim.Native.Nat.{ℕ}
use native.Mathlib.Omega.{arith}
use Rattle.process.specs.Process.{Status, ok, fail, finishes, either, sequence, handler, Process, done, leaf, node, entry, Run}
use Rattle.process.specs.Figure2.{
  Forward,
  f_done,
  f_leaf,
  f_sequence,
  f_sequence_fails,
  f_handler,
  f_handler_fails,
  Complete,
  c_ok,
  c_fail,
}

-- finished is not failed
apart : ok ≡ fail → ⊥
apart e = let z : ◌≡◌ {A = ℕ} 0 1 = cc in omega arith

done_ok : {r : Run} {s : Status} {U : Process} → Forward done r s U → ok ≡ s
done_ok f_done = refl

-- an undo of leaves runs nothing
done_complete : {r : Run} {s : Status} → Complete done r s → r ≡ []
done_complete (c_ok f_done) = refl
done_complete {r = r} (c_fail {p = p} {s = s} f _ _) = elim f [ ]

sequence_done : {r : Run} {s : Status} → Complete (node sequence done done) r s → r ≡ []
sequence_done (c_ok (f_sequence f_done f_done e)) = sym e
sequence_done (c_fail (f_sequence f g e) c j) = absurd (apart (done_ok g))
sequence_done (c_fail (f_sequence_fails f) c j) = absurd (apart (done_ok f))

then_nothing : (w p p' r : Run) → p ≡ w → p' ≡ [] → p ++ p' ≡ r → r ≡ w
then_nothing w p p' r e n j = sym j ∙ rw (e, n) (append-nil w)

-- P2: 0 handled by skip 1, then 3
abbrev pub process2 : Process
process2 = node sequence (node handler (leaf 0 either) (leaf 1 finishes)) (leaf 3 either)

abbrev pub runs2 : List Run
runs2 =
    (entry 0 ok ∷ entry 3 ok ∷ []) ∷ (entry 0 fail ∷ entry 1 ok ∷ entry 3 ok ∷ []) ∷ (entry 0 ok ∷ entry 3 fail ∷ [])
    ∷ (entry 0 fail ∷ entry 1 ok ∷ entry 3 fail ∷ []) ∷ []

-- the handler never fails, and has no undo
data Handled : Run → Type 0 where
  finished : {r : Run} → r ≡ entry 0 ok ∷ [] → Handled r
  skipped : {r : Run} → r ≡ entry 0 fail ∷ entry 1 ok ∷ [] → Handled r

handled : {r : Run} {s : Status} {U : Process} → Forward (node handler (leaf 0 either) (leaf 1 finishes)) r s U → Handled r × (ok ≡ s) × (U ≡ done)
handled (f_handler (f_leaf h)) = (finished refl, refl, refl)
handled {r = r} {s = s} {U = U} (f_handler_fails {q = q} (f_leaf h) (c_fail {p = p} f _ _) _ e) = elim f [ ]
handled (f_handler_fails (f_leaf h) (c_ok f_done) (f_leaf {s = ok} g) e) = (skipped (sym e), refl, refl)
handled (f_handler_fails (f_leaf h) (c_ok f_done) (f_leaf {s = fail} g) e) = absurd (false≢true g)

ok_listed : (p r : Run) → Handled p → p ++ (entry 3 ok ∷ []) ≡ r → Memᴰ r runs2
ok_listed p r (finished h) e = Memᴰ.head (sym e ∙ ap (λ (w : Run). w ++ (entry 3 ok ∷ [])) h)
ok_listed p r (skipped h) e = Memᴰ.tail (Memᴰ.head (sym e ∙ ap (λ (w : Run). w ++ (entry 3 ok ∷ [])) h))

fail_listed : (p q p' r : Run) → Handled p → p ++ (entry 3 fail ∷ []) ≡ q → p' ≡ [] → q ++ p' ≡ r → Memᴰ r runs2
fail_listed p q p' r (finished h) e n j = Memᴰ.tail (Memᴰ.tail (Memᴰ.head (then_nothing (entry 0 ok ∷ entry 3 fail ∷ []) q p' r (sym e ∙ ap (λ (w : Run). w ++ (entry 3 fail ∷ [])) h) n j)))
fail_listed p q p' r (skipped h) e n j =
    Memᴰ.tail (Memᴰ.tail (Memᴰ.tail (Memᴰ.head (then_nothing (entry 0 fail ∷ entry 1 ok ∷ entry 3 fail ∷ []) q p' r (sym e ∙ ap (λ (w : Run). w ++ (entry 3 fail ∷ [])) h) n j))))

no_undo : (U : Process) (p : Run) (s : Status) → U ≡ done → Complete (node sequence done U) p s → p ≡ []
no_undo U p s u c = sequence_done (rw u at c)

pub complete2 : {r : Run} {s : Status} → Complete process2 r s → Memᴰ r runs2
complete2 (c_ok (f_sequence f (f_leaf g) e)) = ok_listed _ _ (handled f).0 e
complete2 (c_fail (f_sequence f (f_leaf g) e) c j) = fail_listed _ _ _ _ (handled f).0 e (no_undo _ _ _ (handled f).2 c) j
complete2 (c_fail (f_sequence_fails f) c j) = absurd (apart (handled f).1)

-- P7: 0 alone, which always finishes
abbrev pub process7 : Process
process7 = leaf 0 finishes

abbrev pub runs7 : List Run
runs7 = (entry 0 ok ∷ []) ∷ []

pub complete7 : {r : Run} {s : Status} → Complete process7 r s → Memᴰ r runs7
complete7 (c_ok (f_leaf g)) = Memᴰ.head refl
complete7 (c_fail (f_leaf g) c j) = absurd (false≢true g)

-- P8: 0, then 1
abbrev pub process8 : Process
process8 = node sequence (leaf 0 either) (leaf 1 either)

abbrev pub runs8 : List Run
runs8 = (entry 0 fail ∷ []) ∷ (entry 0 ok ∷ entry 1 ok ∷ []) ∷ (entry 0 ok ∷ entry 1 fail ∷ []) ∷ []

pub complete8 : {r : Run} {s : Status} → Complete process8 r s → Memᴰ r runs8
complete8 (c_ok (f_sequence (f_leaf g) (f_leaf h) e)) = Memᴰ.tail (Memᴰ.head (sym e))
complete8 (c_fail (f_sequence (f_leaf g) (f_leaf h) e) c j) = Memᴰ.tail (Memᴰ.tail (Memᴰ.head (then_nothing (entry 0 ok ∷ entry 1 fail ∷ []) _ _ _ (sym e) (sequence_done c) j)))
complete8 (c_fail (f_sequence_fails (f_leaf g)) c j) = Memᴰ.head (then_nothing (entry 0 fail ∷ []) _ _ _ refl (done_complete c) j)
