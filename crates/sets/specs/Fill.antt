-- The summaries of a plan's composites in the work area, each at its place: exactly the families of the process that the node is the top of.
use Rattle.std.specs.Prelude.{◌≡◌, List, ℕ, suc, ◌*◌, ◌<◌, ◌≤◌, get_or, length}
use Rattle.nodes.specs.Nodes.{count, form}
use Rattle.plan.specs.Tree.{process_at, process_of}
use Rattle.area.specs.Area.{summary_size, loaded}
use Rattle.summary.specs.declared.Summary.{Summary}
use Rattle.summary.specs.Exact.{Exact}
use Rattle.sets.specs.PlanSets.{leaf_set}
use Rattle.sets.specs.Places.{place}

-- The area holds the summaries of the composites below n.
abbrev pub Holds : List ℕ → List ℕ → ℕ → List ℕ → Type 0
Holds types b n work = (i : ℕ) → i < n → 3 ≤ form b i → Exact (leaf_set b) (loaded work (place b i)) (process_at types b i)

-- The table has the places of the nodes below n.
abbrev pub Placed : List ℕ → ℕ → List ℕ → Type 0
Placed b n places = (i : ℕ) → i < n → get_or places i 0 ≡ place b i

-- What filling the work area comes to: the summary of every composite at its place, and nothing past these has changed; and that of the whole process is handed back.
pub record Filled (types b old new : List ℕ) (s : Summary) : Type 0 where
  pub long : length new ≡ length old
  pub holds : Holds types b (count b) new
  pub kept : (k : ℕ) → summary_size * place b (count b) ≤ k → get_or new k 0 ≡ get_or old k 0
  pub whole : Exact (leaf_set b) s (process_of types b)

-- What comes of one node: the next place, and the summaries of the nodes up to it.
pub record Stepped (types b old : List ℕ) (i : ℕ) (new : List ℕ) (next : ℕ) : Type 0 where
  pub long : length new ≡ length old
  pub next_place : next ≡ place b (suc i)
  pub holds : Holds types b i old → Holds types b (suc i) new
  pub kept : (k : ℕ) → summary_size * place b (suc i) ≤ k → get_or new k 0 ≡ get_or old k 0
