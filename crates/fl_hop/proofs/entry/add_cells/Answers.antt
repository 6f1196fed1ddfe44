use Rattle.std.proofs.Common.{◌≡◌, ap, ◌∙◌, ℕ, ◌+◌, ◌-◌, List, ◌++◌, length, take, replicate, Result, Ok, Err, OnOk, is_ok, vec_len, if◌then◌else◌, arith}
use Rattle.std.specs.declared.alloc.AllocError.{AllocError}
use Rattle.fl_hop.specs.declared.entry.Cell.{Cell}
use Rattle.fl_hop.specs.declared.entry.Cell.TheVariants.{Free}
use Rattle.fl_hop.proofs.Lists.{take_past}
use Rattle.fl_hop.proofs.entry.add_cells.Goals as goal

filled : (r : Result (Unit {0}) AllocError) (n m : ℕ) (xs more : List Cell) → more ≡ (if is_ok r then take (n + 2047) xs ++ replicate (n + 2047 - m) Free else xs) → n ≡ length xs → n ≡ m → OnOk r (more ≡ xs ++ replicate 2047 Free)
filled (Ok u) n m xs more e is same =
    let rest : n + 2047 - m ≡ 2047 = omega arith in
    e ∙ ap (λ ys. ys ++ replicate (n + 2047 - m) Free) (take_past xs (n + 2047) (omega arith)) ∙ ap (λ k. xs ++ replicate k Free) rest
filled (Err f) n m xs more e is same = tt

pub returns-clause-added : goal.returns-clause-added
returns-clause-added c = filled c.resize.result (length c.as_slice-count.result.now) (vec_len c.args.cells.now) c.args.cells.now.items c.resize.new.self.items c.resize.ensures.items (ap length c.as_slice-count.ensures.value) c.as_slice-count.ensures.len
