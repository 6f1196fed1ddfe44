use Rattle.std.proofs.Common.{◌≤◌, ◌<◌, length, take, eqb, sym, subst, arith, w8, w64}
use Rattle.std.proofs.lemmas.Simd.{bitmask_splat, length-chunk}
use Rattle.std.specs.Int.{trailing_zeros}
use Rattle.memchr.specs.Find.{NoneBefore, Passes, is_byte}
use Rattle.fl_script_lines.proofs.Feeds.{feeds_of, first_feed}
use Rattle.fl_script_lines.proofs.item.line_feed.Goals as goal

pub returns : goal.returns
returns c =
    let bytes = c.args.bytes.now in
    let many : 32 ≤ length bytes = omega (arith, c.if-bytes-lt32.false) in
    let is = bitmask_splat w8 eqb (take 32 bytes) 32 10 (length-chunk 0 32 bytes many) (omega arith) in
    let some : 0 < feeds_of bytes = omega (arith, is, c.if-feeds-eq0.false) in
    record {
      first = subst (λ n. NoneBefore (Passes (is_byte 10) bytes) 0 (length bytes) (trailing_zeros w64 n) × Passes (is_byte 10) bytes (trailing_zeros w64 n))
          (sym is) (first_feed bytes many some);
    }
