use Rattle.std.proofs.Common.{◌≡◌, ◌∙◌, ap, sym, refl, length, slice_get, Some, true}
use Rattle.std.proofs.lemmas.Option.{slice_get_read}
use Rattle.std.specs.Str.{bytes_eq}
use Rattle.fl_script_lines.proofs.TableLemmas.{place_guessed}
use Rattle.fl_script_lines.proofs.table.NameTable.find_near.Goals as goal

pub returns-then-is_same : goal.returns-then-is_same
returns-then-is_same c =
    let names = c.as_slice-names.result.now in
    let found = c.in-Some.ensures.lookup in
    let at_guess = slice_get_read names (length names) c.args.guess c.in-Some.guessed.now refl found.3.0 found.1 in
    let there : slice_get c.args.self.now.set.keys c.args.guess ≡ Some c.in-Some.guessed.now = ap (λ ns. slice_get ns c.args.guess) (sym c.as_slice-names.ensures.keys) ∙ at_guess in
    let same : bytes_eq c.args.name.now c.in-Some.guessed.now.items ≡ true = ap (bytes_eq c.args.name.now) (sym c.deref.ensures.value) ∙ sym c.if-is_same.ensures.same in
    record { place = place_guessed c.args.name.now c.args.self.now.set.keys c.args.guess c.in-Some.guessed.now c.as_slice-names.ensures.unique there same }
