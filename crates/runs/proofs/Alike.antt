-- Processes that are one but for empty sides of sequences and parallels have the same runs. The undo of a marked tree drops its empty
-- sides, and so equals the process that Figure 2 leaves only up to these.
use mathlib.Core.Path.{◌≡◌, refl}
use mathlib.Core.List.{[], append-nil}
use Rattle.process.specs.Process.{Status, ok, fail, Form, Process, done, leaf, node, Run}
use Rattle.process.specs.Figure2.{both, Interleaving, neither, from_left, from_right, Forward, f_done, f_sequence, f_sequence_fails, f_parallel, Complete, c_ok, c_fail}
use Rattle.process.proofs.Interleavings.{left_alone, right_alone}
use Rattle.runs.proofs.Marked.{Marked, fresh, Pairing, in_sequence, in_parallel, joined}

pub interleave_nil_is : {p r : Run} → Interleaving p [] r → r ≡ p
interleave_nil_is neither = refl
interleave_nil_is (from_left i) = rw (interleave_nil_is i)

pub nil_interleave_is : {q r : Run} → Interleaving [] q r → r ≡ q
nil_interleave_is neither = refl
nil_interleave_is (from_right i) = rw (nil_interleave_is i)

both_ok : (s : Status) → both s ok ≡ s
both_ok ok = refl
both_ok fail = refl

pub data Alike : Process → Process → Type 0 where
  alike : {P : Process} → Alike P P
  via : {P Q R : Process} → Alike P Q → Alike Q R → Alike P R
  sides : {f : Form} {P Q N M : Process} → Pairing f → Alike P N → Alike Q M → Alike (node f P Q) (node f N M)
  drop_left : {f : Form} {P : Process} → Pairing f → Alike (node f done P) P
  add_left : {f : Form} {P : Process} → Pairing f → Alike P (node f done P)
  drop_right : {f : Form} {P : Process} → Pairing f → Alike (node f P done) P
  add_right : {f : Form} {P : Process} → Pairing f → Alike P (node f P done)

pub back : {P N : Process} → Alike P N → Alike N P
back alike = alike
back (via a b) = via (back b) (back a)
back (sides f a b) = sides f (back a) (back b)
back (drop_left f) = add_left f
back (add_left f) = drop_left f
back (drop_right f) = add_right f
back (add_right f) = drop_right f

abbrev Likewise : Process → Run → Status → Process → Type 0
Likewise N p s P' = (N' : Process) × Forward N p s N' × Alike P' N'

alike_forward : {P N P' : Process} {p : Run} {s : Status} → Alike P N → Forward P p s P' → Likewise N p s P'
alike_forward alike f = (_, f, alike)
alike_forward (via a b) f = let (N, g, i) = alike_forward a f in let (M, h, j) = alike_forward b g in (M, h, via i j)
alike_forward (sides in_sequence a b) (f_sequence f g e) = let (N, x, i) = alike_forward a f in let (M, y, j) = alike_forward b g in (_, f_sequence x y e, sides in_sequence j i)
alike_forward (sides in_sequence a b) (f_sequence_fails f) = let (N, x, i) = alike_forward a f in (_, f_sequence_fails x, i)
alike_forward (sides in_parallel a b) (f_parallel f g m e) = let (N, x, i) = alike_forward a f in let (M, y, j) = alike_forward b g in (_, f_parallel x y m e, sides in_parallel i j)
alike_forward (drop_left in_sequence) (f_sequence f_done g e) = rw (← e) (_, g, drop_right in_sequence)
alike_forward (drop_left in_sequence) (f_sequence_fails f) = elim f [ ]
alike_forward (drop_left in_parallel) (f_parallel f_done g m e) = rw (← e, nil_interleave_is m) (_, g, drop_left in_parallel)
alike_forward (drop_right in_sequence) (f_sequence f f_done e) = rw (← e, append-nil) (_, f, drop_left in_sequence)
alike_forward (drop_right in_sequence) (f_sequence_fails f) = (_, f, alike)
alike_forward (drop_right in_parallel) (f_parallel {s = s} f f_done m e) = rw (← e, both_ok s, interleave_nil_is m) (_, f, drop_right in_parallel)
alike_forward (add_left in_sequence) f = (_, f_sequence f_done f refl, add_right in_sequence)
alike_forward (add_left in_parallel) f = (_, f_parallel f_done f (right_alone _) refl, add_left in_parallel)
alike_forward {s = ok} (add_right in_sequence) f = (_, f_sequence f f_done (append-nil _), add_left in_sequence)
alike_forward {s = fail} (add_right in_sequence) f = (_, f_sequence_fails f, alike)
alike_forward {s = s} (add_right in_parallel) f = (_, f_parallel f f_done (left_alone _) (both_ok s), add_right in_parallel)

pub alike_complete : {P N : Process} {p : Run} {s : Status} → Alike P N → Complete P p s → Complete N p s
alike_complete a (c_ok f) = c_ok (alike_forward a f).1
alike_complete a (c_fail f c e) = let (N', g, i) = alike_forward a f in c_fail g (alike_complete i c) e

-- The tree U is the process P before it has begun, but for empty sides.
abbrev pub StandsFor : Marked → Process → Type 0
StandsFor U P = (N : Process) × (U ≡ fresh N) × Alike N P

-- Two such trees joined.
joined_alike : {f : Form} → Pairing f → (N M : Process) → (J : Process) × (joined f (fresh N) (fresh M) ≡ fresh J) × Alike J (node f N M)
joined_alike f done M = (M, refl, add_left f)
joined_alike f (leaf n k) done = (leaf n k, refl, add_right f)
joined_alike f (leaf n k) (leaf m l) = (_, refl, alike)
joined_alike f (leaf n k) (node g A B) = (_, refl, alike)
joined_alike f (node g A B) done = (node g A B, refl, add_right f)
joined_alike f (node g A B) (leaf m l) = (_, refl, alike)
joined_alike f (node g A B) (node h C D) = (_, refl, alike)

pub joined_stands : {f : Form} {U W : Marked} {P Q : Process} → Pairing f → StandsFor U P → StandsFor W Q → StandsFor (joined f U W) (node f P Q)
joined_stands f (N, u, a) (M, w, b) = let (J, e, i) = joined_alike f N M in (J, rw (u, w) e, via i (sides f a b))
