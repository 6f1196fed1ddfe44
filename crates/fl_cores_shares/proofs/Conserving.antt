-- What the sides of a new ring took.
use Rattle.std.proofs.Common.{◌≡◌, refl, sym, ap, ◌∙◌, subst, List, [], ◌++◌, map}
use Rattle.fl_base.specs.declared.fragment.Frag.{Frag}
use Rattle.fl_base.specs.Control.{bare}
use Rattle.fl_base.specs.Prefix.{IsPrefix}
use Rattle.fl_link.specs.Calls.{bare_calls}
use Rattle.fl_link.specs.Looks.{Look, puts_of, takes_of}
use Rattle.fl_link.specs.Laws.{CallsPrefix}
use Rattle.fl_ring.specs.SharedSides.{TheSide, SidesNear}
use Rattle.fl_ring.specs.Laws.{SideLaw}
use Rattle.fl_cores_shares.specs.Shares.{AreNew}
use Rattle.fl_cores_shares.specs.Settled.{Goes, TwoSides, IsNear, Conserves, RingsConserve}

one_way : (law : SideLaw) (prefix : CallsPrefix) (a b c d : TheSide) (forth back : List Look) → a.sent ≡ [] → b.got ≡ [] → Goes a forth c → Goes b back d → SidesNear c d
    → IsPrefix (takes_of back) (map bare (puts_of forth))
one_way law prefix a b c d forth back sent got put took near =
    let placed : bare_calls c.sent ≡ map bare (puts_of forth) =
    (law a c forth put).put ∙ ap (λ (xs : List Frag). bare_calls xs ++ map bare (puts_of forth)) sent in
    let found : bare_calls d.got ≡ takes_of back =
    (law b d back took).took ∙ ap (λ (xs : List Frag). bare_calls xs ++ takes_of back) got in
    subst (λ (xs : List Frag). IsPrefix (takes_of back) xs) placed (subst (λ (xs : List Frag). IsPrefix xs (bare_calls c.sent)) found (prefix d.got c.sent near.got_sent))

pub conserve : SideLaw → CallsPrefix → RingsConserve
conserve law prefix size p q forth back new put took near = record {
  there = one_way law prefix p.one p.two q.one q.two forth back (ap (λ (s : TheSide). s.sent) new.one_is) (ap (λ (s : TheSide). s.got) new.two_is) put took near.forth;
  again = one_way law prefix p.two p.one q.two q.one back forth (ap (λ (s : TheSide). s.sent) new.two_is) (ap (λ (s : TheSide). s.got) new.one_is) took put near.back;
}
