use Rattle.std.proofs.Common.{ℕ, ◌≡◌, ◌+◌, ◌-◌, List, None, Some, ap, ◌∙◌, sym, refl, arith}
use Rattle.fl_base.specs.declared.fragment.Frag.{Frag}
use Rattle.fl_base.specs.Control.{told_of}
use Rattle.fl_ring.specs.Way.{standing}
use Rattle.fl_ring.specs.Counts.{count_from, known_after}
use Rattle.fl_ring.specs.declared.halves.DuoHalf.{DuoHalf}
use Rattle.fl_ring.proofs.DuoLooks.{look_finds}
use Rattle.fl_ring.proofs.DuoSteps.{known_told, known_steps}
use Rattle.fl_ring.proofs.halves.look_back.Goals as goal

pub returns-in_default-clause-looks : goal.returns-in_default-clause-looks
returns-in_default-clause-looks c = λ n b s.
    ((look_finds n c.args.words.now c.args.mine.now b c.place.result c.epoch.result None s c.place.ensures.place c.epoch.ensures.epoch c.in_default.ensures.look).0, refl)

pub count_from-mine-requires : goal.count_from-mine-requires
count_from-mine-requires c =
    let n = c.requires.0 in let b = c.requires.1 in let s = c.requires.2 in
    omega (arith, known_told n c.args.words.now c.args.mine.now b s.there, s.there.marked.order, s.there.most)

-- the count that becomes known
count_is : (c : goal.After-mine-1) → c.count_from-mine.result ≡ count_from c.args.mine.now.known (told_of c.in-Some.frag.control)
count_is c = c.count_from-mine.ensures.count ∙ ap (λ (x : ℕ). count_from c.args.mine.now.known x) c.told.ensures

pub returns-clause-looks : goal.returns-clause-looks
returns-clause-looks c = λ n b s.
    let m = c.args.mine.now in
    let found = look_finds n c.args.words.now m b c.place.result c.epoch.result (Some c.in-Some.frag) s c.place.ensures.place c.epoch.ensures.epoch c.in-Some.ensures.look in (
      (standing b.base n c.args.words.now (m.take.index + 1) (b.put.index - (m.take.index + 1)), found.0),
      ap (λ (k : ℕ). let h : DuoHalf = record { base = m.base; other = m.other; put = m.put; take = m.take; known = k; told = m.told } in h) (count_is c),
    )

pub returns-clause-steps : goal.returns-clause-steps
returns-clause-steps c = λ n b s.
    let m = c.args.mine.now in
    let found = look_finds n c.args.words.now m b c.place.result c.epoch.result (Some c.in-Some.frag) s c.place.ensures.place c.epoch.ensures.epoch c.in-Some.ensures.look in
    known_steps n c.args.words.now m b c.count_from-mine.result s (count_is c ∙ sym (ap (λ (xs : List Frag). known_after m.known xs) found.0))
