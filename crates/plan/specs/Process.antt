-- That a plan can be run, as a test: what a value of `Process` keeps. `runnable_of` and `runnable_test` in proofs/Runnable.antt prove that it is `RunnableWithin`.
use Rattle.std.specs.Prelude.{Bool, ◌&&◌, List, ℕ, leb, length}
use Rattle.bodies.specs.Types.{types_ok}
use Rattle.nodes.specs.NodeTests.{forms_ok, named_ok, nested_ok}

unfoldable pub runnable_within : ℕ → List ℕ → List ℕ → Bool
runnable_within action_limit types nodes =
    leb (length types) action_limit
    && types_ok types
    && leb 3 (length nodes)
    && leb (length nodes) 189
    && forms_ok (length types) nodes
    && named_ok nodes
    && nested_ok nodes
