use Rattle.std.proofs.Common.{◌≡◌, List, ℕ, refl, sym, subst}
use Rattle.fl_script_lines.specs.declared.command.Verb.TheVariants as verb
use Rattle.fl_script_lines.specs.Reading.{command_by, line_with, read_line}
use Rattle.fl_script_lines.proofs.reader.read_repeated.Goals as goal

pub returns-in-Some : goal.returns-in-Some
returns-in-Some c = record { told = subst (λ (l : List ℕ). line_with (command_by verb.Call c.in-Some.rest.now) ≡ read_line l) (sym c.in-Some.ensures.told) refl }

pub returns-in-Some-behind : goal.returns-in-Some-behind
returns-in-Some-behind c = record { told = subst (λ (l : List ℕ). line_with (command_by verb.Write c.in-Some-behind.rest.now) ≡ read_line l) (sym c.in-Some-behind.ensures.told) refl }

pub returns-in-Some-behind-2 : goal.returns-in-Some-behind-2
returns-in-Some-behind-2 c = record { told = subst (λ (l : List ℕ). line_with (command_by verb.Turn c.in-Some-behind-2.rest.now) ≡ read_line l) (sym c.in-Some-behind-2.ensures.told) refl }

pub returns-in-Some-behind-3 : goal.returns-in-Some-behind-3
returns-in-Some-behind-3 c = record { told = subst (λ (l : List ℕ). line_with (command_by verb.Show c.in-Some-behind-3.rest.now) ≡ read_line l) (sym c.in-Some-behind-3.ensures.told) refl }

pub returns-in-Some-behind-4 : goal.returns-in-Some-behind-4
returns-in-Some-behind-4 c = record { told = subst (λ (l : List ℕ). line_with (command_by verb.Ack c.in-Some-behind-4.rest.now) ≡ read_line l) (sym c.in-Some-behind-4.ensures.told) refl }

pub returns-in-Some-behind-5 : goal.returns-in-Some-behind-5
returns-in-Some-behind-5 c = record { told = subst (λ (l : List ℕ). line_with (command_by verb.Forward c.in-Some-behind-5.rest.now) ≡ read_line l) (sym c.in-Some-behind-5.ensures.told) refl }
