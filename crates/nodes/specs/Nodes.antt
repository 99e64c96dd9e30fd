-- Document 01, kind 3: nodes, "three bytes each (form, left, right) .. numbered from 0". What the body may hold, over node numbers.
use Rattle.std.specs.Prelude.{List, ◌≡◌, ℕ, suc, ◌+◌, ◌*◌, ◌/◌, ◌≤◌, ◌<◌, length, get_or}
use Rattle.process.specs.Depth.{most_undos}

abbrev pub count : List ℕ → ℕ
count b = length b / 3

abbrev pub form : List ℕ → ℕ → ℕ
form b i = get_or b (3 * i) 0

abbrev pub left : List ℕ → ℕ → ℕ
left b i = get_or b (3 * i + 1) 0

abbrev pub right : List ℕ → ℕ → ℕ
right b i = get_or b (3 * i + 2) 0

-- The rule of node i's form. "Forms: 0 action (left is its number, right is 0), 1 skip, 2 throw (both other bytes 0), 3 sequence, 4
-- parallel, 5 choice, 6 compensation, 7 handler. Forms 3 to 7 name two nodes with smaller numbers."
pub record FormRule (actions : ℕ) (b : List ℕ) (i : ℕ) : Type 0 where
  pub known : form b i ≤ 7
  pub action : form b i ≡ 0 → (left b i < actions) × (right b i ≡ 0)
  pub plain : 1 ≤ form b i → form b i ≤ 2 → (left b i ≡ 0) × (right b i ≡ 0)
  pub parts : 3 ≤ form b i → (left b i < i) × (right b i < i)

abbrev pub FormRules : ℕ → List ℕ → Type 0
FormRules actions b = (i : ℕ) → i < count b → FormRule actions b i

-- what the reading of a node list rests on: parts have smaller numbers
abbrev pub Descending : List ℕ → Type 0
Descending b = (i : ℕ) → i < count b → 3 ≤ form b i → (left b i < i) × (right b i < i)

-- The two places of a node that name another.
pub data Side : Type 0 where
  on_left on_right : Side

abbrev pub child : List ℕ → ℕ → Side → ℕ
child b i on_left = left b i
child b i on_right = right b i

-- node i names j on the side s
pub record Names (b : List ℕ) (i : ℕ) (s : Side) (j : ℕ) : Type 0 where
  pub present : i < count b
  pub composite : 3 ≤ form b i
  pub is : child b i s ≡ j

-- j is named exactly once: by one node, on one side
pub record NamedOnce (b : List ℕ) (j : ℕ) : Type 0 where
  pub node : ℕ
  pub side : Side
  pub names : Names b node side j
  pub only : (i : ℕ) (s : Side) → Names b i s j → (i ≡ node) × (s ≡ side)

-- "The last node is the whole process; every other node is named exactly once."
abbrev pub EachNamedOnce : List ℕ → Type 0
EachNamedOnce b = (j : ℕ) → j + 1 < count b → NamedOnce b j

-- node j stands in the part of the plan that node i is the top of
pub data Under (b : List ℕ) (i : ℕ) : ℕ → Type 0 where
  itself : Under b i i
  named : {p j : ℕ} {s : Side} → Under b i p → Names b p s j → Under b i j

-- compensations nested n deep: form 6 at node i, and n - 1 more, each in the right side of the one before it
pub data Nested (b : List ℕ) : ℕ → ℕ → Type 0 where
  alone : {i : ℕ} → i < count b → form b i ≡ 6 → Nested b 1 i
  nested : {n i j : ℕ} → i < count b → form b i ≡ 6 → Under b (right b i) j → Nested b n j → Nested b (suc n) i

-- Document 02 (N14): "An undo side may hold compensations whose own right sides hold none": no third level.
abbrev pub NotTooDeep : List ℕ → Type 0
NotTooDeep b = (i : ℕ) → Nested b (suc most_undos) i → ⊥

-- the three rules of a node body together
pub record NodeRules (actions : ℕ) (b : List ℕ) : Type 0 where
  pub keep : FormRules actions b
  pub once : EachNamedOnce b
  pub shallow : NotTooDeep b
