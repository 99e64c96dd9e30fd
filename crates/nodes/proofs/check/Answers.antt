-- `nodes::check` meets its contract: nodes that keep the rules of their forms name smaller numbers, which the depths rest on.
use Rattle.std.proofs.Common.{sym, ◌∙◌}
use Rattle.nodes.proofs.Forms.{descending}
use Rattle.nodes.proofs.check.Goals as goal

pub named_ok-requires : goal.named_ok-requires
named_ok-requires c = descending _ _ (sym c.forms_ok.ensures ∙ c.if-not-forms_ok.false)

pub nested_ok-requires : goal.nested_ok-requires
nested_ok-requires c = (c.requires, descending _ _ (sym c.forms_ok.ensures ∙ c.if-not-forms_ok.false))
