-- The leaves of a process, and what a plan's process is like: no `done` in it, and its leaves distinct.
use Rattle.std.specs.Prelude.{◌≡◌, ◌⊎◌, ℕ}
use Rattle.process.specs.Process.{Status, Kind, Permits, Process, done, leaf, node}

-- A process as a plan writes it: `done` is only ever an undo.
abbrev pub AsWritten : Process → Type 0
AsWritten done = ⊥
AsWritten (leaf n k) = Unit {0}
AsWritten (node f P Q) = AsWritten P × AsWritten Q

-- Some leaf of the process is so, by its number and its kind.
abbrev pub SomeLeaf : (ℕ → Kind → Type 0) → Process → Type 0
SomeLeaf F done = ⊥
SomeLeaf F (leaf n k) = F n k
SomeLeaf F (node f P Q) = SomeLeaf F P ⊎ SomeLeaf F Q

-- Node n is a leaf of the process.
abbrev pub HasLeaf : ℕ → Process → Type 0
HasLeaf n P = SomeLeaf (λ m k. n ≡ m) P

-- Its leaf n permits this status.
abbrev pub LeafPermits : ℕ → Status → Process → Type 0
LeafPermits n s P = SomeLeaf (λ m k. (n ≡ m) × Permits k s) P

-- No two leaves have one number: they are nodes of one plan.
abbrev pub Apart : Process → Process → Type 0
Apart P Q = (n : ℕ) → HasLeaf n P → ¬ HasLeaf n Q

abbrev pub Distinct : Process → Type 0
Distinct done = Unit {0}
Distinct (leaf n k) = Unit {0}
Distinct (node f P Q) = Distinct P × Distinct Q × Apart P Q
