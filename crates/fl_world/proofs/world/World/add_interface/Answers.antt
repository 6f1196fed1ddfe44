use Rattle.std.proofs.Common.{ℕ, List, sym, ap, ◌∙◌, arith}
use Rattle.fl_interface.specs.Interface.{interface_of}
use Rattle.fl_world_refines.specs.Making.{has_program}
use Rattle.fl_world.proofs.Kept.{on_any}
use Rattle.fl_world.proofs.Last.{interface_last}
use Rattle.fl_world.proofs.world.World.add_interface.Goals as goal

pub returns-clause-last : goal.returns-clause-last
returns-clause-last c = on_any _ c.with_program.result (interface_last (interface_of c.args.interface.now) c.args.plan c.args.self.now _ c.self.view_is
    (sym (c.has_program.ensures.has ∙ ap (λ (n : List ℕ). has_program n c.args.self.now) c.as_slice.ensures.value) ∙ c.if-has_program.false)
    (omega (arith, c.if-len-ge-MAX_INTERFACES.false, c.len.ensures, c.self.inside.programs.ok.0)))
