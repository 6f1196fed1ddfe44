use Rattle.std.proofs.Common.{◌∙◌, sym, ap}
use Rattle.fl_parse.specs.Grammar.{parsed}
use Rattle.fl_parse.specs.Tree.{tree_of}
use Rattle.fl_check.proofs.TextLemmas.{if_ok_then, parse_told}
use Rattle.fl_check.specs.Text.{text_fault}
use Rattle.fl_check.specs.TextOutcome.{outcome_of}
use Rattle.fl_lex.specs.Token.{tokens_of}
use Rattle.fl_check.proofs.text.read_tokens.Goals as goal

pub returns-in-Ok : goal.returns-in-Ok
returns-in-Ok c = record { means = if_ok_then c.read_tree.result _ _ (λ r h. (parsed (tree_of c.in-Ok.tree), c.in-Ok.ensures.outcome, h)) c.read_tree.ensures.means }

pub returns-in-Err : goal.returns-in-Err
returns-in-Err c = record {
  means =
      if_ok_then c.fault_read.result _ _
      (λ r h. parse_told (tokens_of c.args.tokens.now) c.in-Err.fault h.0 (outcome_of r) c.in-Err.ensures.outcome (sym c.offset.ensures.offset ∙ h.1) (h.2 ∙ ap (λ n. text_fault n h.0) c.number.ensures.number))
      c.fault_read.ensures.fault;
}
