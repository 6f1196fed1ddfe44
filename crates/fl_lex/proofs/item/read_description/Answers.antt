use Rattle.std.proofs.Common.{refl, arith}
use Rattle.fl_lex.proofs.Cuts.{described_cuts, described_open}
use Rattle.fl_lex.proofs.item.read_description.Goals as goal
use Rattle.fl_lex.proofs.item.read_description.Goals.{else-inside-more-via-then-inside-more+else-more-inside-eq34, else-inside-more-via-else-inside-more}

pub returns-then-more-inside-eq34 : goal.returns-then-more-inside-eq34
returns-then-more-inside-eq34 c = record { found = described_cuts _ _ _ c.after-more.ensures.rest c.requires c.described_len-inside.ensures.count c.if-inside-more.true c.if-more-inside-eq34.true }

pub returns : goal.returns
returns c = record {
  found = (
    refl,
    described_open _ _ _ c.after-more.ensures.rest c.requires c.described_len-inside.ensures.count (λ within last.
        elim c.else-inside-more.branch [
          | else-inside-more-via-then-inside-more+else-more-inside-eq34 w ↦ w.if-more-inside-eq34.false last
          | else-inside-more-via-else-inside-more w ↦ absurd (omega (arith, within, w.if-inside-more.false))
        ]),
  );
}
