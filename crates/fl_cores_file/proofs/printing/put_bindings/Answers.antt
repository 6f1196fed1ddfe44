use Rattle.std.proofs.Common.{◌≡◌, ℕ, List, ◌++◌, ◌∙◌, sym, ap, append_assoc, length, arith}
use lib.ListN.{length-map}
use Rattle.fl_script_lines.specs.Tables.{table_of}
use Rattle.std.specs.List.{flat_map, range_with_len}
use Rattle.fl_cores_file.specs.Files.{file_from}
use Rattle.fl_cores_file.specs.Printed.{rank_of, text_at_rank}
use Rattle.fl_cores_file.specs.Reports.{report_of}
use Rattle.fl_cores_file.proofs.Lists.{one_rank_more}
use Rattle.fl_cores_file.proofs.printing.put_bindings.Goals as goal

pub loop-rank-preserved : goal.loop-rank-preserved
loop-rank-preserved c =
    let text : ℕ → List ℕ = text_at_rank (file_from c.args.file.now) (report_of c.args.report.now) in
    let so_far : List ℕ = flat_map text (range_with_len 0 c.loop-rank.rank) in
    c.in_ok-put_rank.ensures.ok
    ∙ (ap (λ (t : List ℕ). t ++ text c.loop-rank.rank) c.loop-rank.invariant
    ∙ (append_assoc c.args.out.now.items so_far (text c.loop-rank.rank) ∙ ap (λ (t : List ℕ). c.args.out.now.items ++ t) (sym (one_rank_more text c.loop-rank.rank))))

pub returns : goal.returns
returns c =
    let text : ℕ → List ℕ = text_at_rank (file_from c.args.file.now) (report_of c.args.report.now) in
    let names : List (List ℕ) = table_of c.args.file.now.names.bindings in
    let all : c.loop-rank.rank ≡ length c.args.ranks.now = omega (arith, c.loop-rank-test.false, c.loop-rank.auto.rank-end) in
    let count : length c.args.ranks.now ≡ length names = ap length c.requires.ranks ∙ length-map names (rank_of names) in
    record { ok = c.loop-rank.invariant ∙ ap (λ n. c.args.out.now.items ++ flat_map text (range_with_len 0 n)) (all ∙ count) }
