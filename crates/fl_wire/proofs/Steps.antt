-- Reading in steps: what stands at a place begins with one thing, and the rest follows.
use Rattle.std.proofs.Common.{◌≡◌, ℕ, Bool, ◌+◌, ◌*◌, ◌<◌, ◌≤◌, List, ◌++◌, length, refl, sym, ◌∙◌, ap, subst, arith}
use Rattle.fl_base.specs.declared.fragment.Frag.{Frag}
use Rattle.fl_layout.specs.Leaves.{Leaf}
use Rattle.fl_layout.specs.Places.{size}
use Rattle.fl_wire.specs.Standing.{SplitLeaves}
use Rattle.fl_wire.specs.Covered.{is_covered}
use Rattle.fl_wire.specs.Shapes.{Agrees, Shape, Got, Halts, IsWhy, Near, StreamCut, Wrong, Stops, ReadAt, StopsAt}
use Rattle.fl_wire.specs.declared.leaf.CallReadFault.{CallReadFault}
use Rattle.fl_wire.specs.declared.leaf.CallReadFault.TheVariants.{Short, Padding, Value, Length, Memory}
use Rattle.fl_wire.proofs.Agreement.{over_over, keeps, grows}
use Rattle.fl_wire.proofs.Covers.{covered_under}

pub fewer : (frags : List Frag) (full : List Leaf) (m n : ℕ) → m ≤ n → Agrees frags full n → Agrees frags full m
fewer frags full m n h a = record { at = λ p small. a.at p (omega (arith, h, small)) }

-- from one thing at a place, what is left is another at a later place; put together they are the first
pub record Goes (x y : Shape) (frags : List Frag) (low now : List Leaf) (join : y.what → x.what) : Type 0 where
  pub later : size low ≤ size now
  pub within : size now ≤ 56 * length frags
  pub agree : Agrees frags now (size now)
  pub fit : (e : y.what) → y.fits e → x.fits (join e)
  pub same : (e : y.what) → y.fits e → x.onto (join e) low ≡ y.onto e now
  pub told : (d : x.what) (full : List Leaf) → x.fits d → SplitLeaves (x.onto d low) full → Agrees frags full (size now) → (e : y.what) × ((d ≡ join e) × y.fits e)
  pub alive : x.alive → y.alive
  pub lengths : (e : y.what) → y.fits e → (n : ℕ) → size now ≤ n → x.lengths (join e) low n ≡ y.lengths e now n

pub goes_self : (x : Shape) (frags : List Frag) (low : List Leaf) → size low ≤ 56 * length frags → Agrees frags low (size low) → Goes x x frags low low (λ e. e)
goes_self x frags low room a = record {
  later = omega arith;
  within = room;
  agree = a;
  fit = λ e f. f;
  same = λ e f. refl;
  told = λ d full f over agree. (d, (refl, f));
  alive = λ some. some;
  lengths = λ e f n past. refl;
}

-- what stands under what is left
pub rest_over : (x y : Shape) (frags : List Frag) (low now full : List Leaf) (join : y.what → x.what) → Goes x y frags low now join
    → (d : x.what) (e : y.what) → d ≡ join e → y.fits e → SplitLeaves (x.onto d low) full → SplitLeaves (y.onto e now) full
rest_over x y frags low now full join g d e is f over =
    subst (λ (ls : List Leaf). SplitLeaves ls full) (ap (λ (c : x.what). x.onto c low) is ∙ g.same e f) over

pub goes_on : (x y z : Shape) (frags : List Frag) (low now then : List Leaf) (join : y.what → x.what) (next : z.what → y.what)
    → Goes x y frags low now join → Goes y z frags now then next → Goes x z frags low then (λ e. join (next e))
goes_on x y z frags low now then join next g h = record {
  later = omega (arith, g.later, h.later);
  within = h.within;
  agree = h.agree;
  fit = λ e f. g.fit (next e) (h.fit e f);
  same = λ e f. g.same (next e) (h.fit e f) ∙ h.same e f;
  told = λ d full f over agree.
      let (e, (is, fe)) = g.told d full f over (fewer frags full (size now) (size then) h.later agree) in
      let (c, (also_is, fc)) = h.told e full fe (rest_over x y frags low now full join g d e is fe over) agree in
      (c, (is ∙ ap join also_is, fc));
  alive = λ some. h.alive (g.alive some);
  lengths = λ e f n past. g.lengths (next e) (h.fit e f) n (omega (arith, past, h.later)) ∙ h.lengths e f n past;
}

pub goes_join : (x y : Shape) (frags : List Frag) (low now : List Leaf) (join other : y.what → x.what) → ((e : y.what) → join e ≡ other e)
    → Goes x y frags low now join → Goes x y frags low now other
goes_join x y frags low now join other e g = record {
  later = g.later;
  within = g.within;
  agree = g.agree;
  fit = λ c f. subst (λ (d : x.what). x.fits d) (e c) (g.fit c f);
  same = λ c f. ap (λ (d : x.what). x.onto d low) (sym (e c)) ∙ g.same c f;
  told = λ d full f over agree. let (c, (is, fc)) = g.told d full f over agree in (c, (is ∙ e c, fc));
  alive = g.alive;
  lengths = λ c f n past. ap (λ (d : x.what). x.lengths d low n) (sym (e c)) ∙ g.lengths c f n past;
}

pub goes_halt : (x y : Shape) (frags : List Frag) (low now : List Leaf) (join : y.what → x.what) (n : ℕ) (is : List Leaf → Type 0)
    → Goes x y frags low now join → size now ≤ n → Halts y frags now n is → Halts x frags low n is
goes_halt x y frags low now join n is g h halts = record {
  none = λ d full f over agree.
      let (e, (same, fe)) = g.told d full f over (fewer frags full (size now) n h agree) in
      halts.none e full fe (rest_over x y frags low now full join g d e same fe over) agree;
}

-- what stands at a byte of one thing stands there of the other
why_same : (stop : CallReadFault) (a b : Bool) (f g : List Leaf) (n : ℕ) → a ≡ b → f ≡ g → IsWhy stop b (is_covered g n) → IsWhy stop a (is_covered f n)
why_same stop a b f g n e h why =
    subst (λ (ls : List Leaf). IsWhy stop a (is_covered ls n)) (sym h) (subst (λ (v : Bool). IsWhy stop v (is_covered g n)) (sym e) why)

pub goes_near : (stop : CallReadFault) (x y : Shape) (frags : List Frag) (low now : List Leaf) (join : y.what → x.what) (n : ℕ) → Goes x y frags low now join → size now ≤ n
    → Near stop y frags now n → Near stop x frags low n
goes_near stop x y frags low now join n g h near =
    let same : x.onto (join near.one) low ≡ y.onto near.one now = g.same near.one near.fit in
    record {
      one = join near.one;
      fit = g.fit near.one near.fit;
      agree = subst (λ (ls : List Leaf). Agrees frags ls n) (sym same) near.agree;
      longer = subst (λ (ls : List Leaf). n < size ls) (sym same) near.longer;
      why = why_same stop (x.lengths (join near.one) low n) (y.lengths near.one now n) (x.onto (join near.one) low) (y.onto near.one now) n (g.lengths near.one near.fit n h) same near.why;
    }

pub goes_cut : (x y : Shape) (frags : List Frag) (low now : List Leaf) (join : y.what → x.what) → Goes x y frags low now join → StreamCut y frags now → StreamCut x frags low
goes_cut x y frags low now join g h = record {
  all = goes_halt x y frags low now join (56 * length frags) (λ full. 56 * length frags < size full) g g.within h.all;
  near = λ some. goes_near Short x y frags low now join (56 * length frags) g g.within (h.near (g.alive some));
}

pub goes_wrong : (stop : CallReadFault) (x y : Shape) (frags : List Frag) (low now : List Leaf) (join : y.what → x.what) → Goes x y frags low now join → Wrong stop y frags now → Wrong stop x frags low
goes_wrong stop x y frags low now join g w = record {
  p = w.p;
  after = omega (arith, g.later, w.after);
  inside = w.inside;
  none = goes_halt x y frags low now join (w.p + 1) (λ full. ⊥) g (omega (arith, w.after)) w.none;
  near = λ some. goes_near stop x y frags low now join w.p g w.after (w.near (g.alive some));
}

pub goes_stop : (x y : Shape) (frags : List Frag) (low now : List Leaf) (join : y.what → x.what) (stop : CallReadFault) → Goes x y frags low now join → Stops stop y frags now → Stops stop x frags low
goes_stop x y frags low now join Short g h = goes_cut x y frags low now join g h
goes_stop x y frags low now join Padding g h = goes_wrong Padding x y frags low now join g h
goes_stop x y frags low now join Value g h = goes_wrong Value x y frags low now join g h
goes_stop x y frags low now join Length g h = goes_wrong Length x y frags low now join g h
goes_stop x y frags low now join Memory g h = tt

pub goes_got : (x y : Shape) (frags : List Frag) (low now : List Leaf) (join : y.what → x.what) (d : y.what) (end : ℕ) → Goes x y frags low now join → size now ≤ end
    → Got y frags now d end → Got x frags low (join d) end
goes_got x y frags low now join d end g h got = record {
  fit = g.fit d got.fit;
  ends = ap size (g.same d got.fit) ∙ got.ends;
  agree = subst (λ (ls : List Leaf). Agrees frags ls end) (sym (g.same d got.fit)) got.agree;
  told = λ c full f over agree.
      let (e, (is, fe)) = g.told c full f over (fewer frags full (size now) end h agree) in
      is ∙ ap join (got.told e full fe (rest_over x y frags low now full join g c e is fe over) agree);
}

-- a thing begins with one of a first kind, and what follows is told by that
pub record Begins (x a : Shape) (y : a.what → Shape) (low : List Leaf) (join : (b : a.what) → (y b).what → x.what) : Type 0 where
  pub split : (d : x.what) → x.fits d → (b : a.what) × (a.fits b × ((e : (y b).what) × ((d ≡ join b e) × (y b).fits e)))
  pub fit : (b : a.what) (e : (y b).what) → a.fits b → (y b).fits e → x.fits (join b e)
  pub same : (b : a.what) (e : (y b).what) → a.fits b → (y b).fits e → x.onto (join b e) low ≡ (y b).onto e (a.onto b low)
  pub over : (b : a.what) (e : (y b).what) → SplitLeaves (a.onto b low) ((y b).onto e (a.onto b low))
  pub alive : x.alive → a.alive
  pub more : x.alive → (b : a.what) → a.fits b → (e : (y b).what) × (y b).fits e
  pub alive_more : x.alive → (b : a.what) → a.fits b → (y b).alive
  pub lengths_first : (b : a.what) (e : (y b).what) → a.fits b → (y b).fits e → (n : ℕ) → n < size (a.onto b low) → x.lengths (join b e) low n ≡ a.lengths b low n
  pub lengths_rest : (b : a.what) (e : (y b).what) → a.fits b → (y b).fits e → (n : ℕ) → size (a.onto b low) ≤ n → x.lengths (join b e) low n ≡ (y b).lengths e (a.onto b low) n

-- the first thing of what stands under a payload stands under it
pub first_over : (x a : Shape) (y : a.what → Shape) (low full : List Leaf) (join : (b : a.what) → (y b).what → x.what) → Begins x a y low join
    → (d : x.what) (b : a.what) (e : (y b).what) → a.fits b → (y b).fits e → d ≡ join b e → SplitLeaves (x.onto d low) full → SplitLeaves (a.onto b low) full
first_over x a y low full join begins d b e fb fe is over =
    over_over _ _ _ (begins.over b e) (subst (λ (ls : List Leaf). SplitLeaves ls full) (ap (λ (c : x.what). x.onto c low) is ∙ begins.same b e fb fe) over)

-- the first thing is read
pub begin_got : (x a : Shape) (y : a.what → Shape) (frags : List Frag) (low : List Leaf) (join : (b : a.what) → (y b).what → x.what) (b : a.what) (end : ℕ)
    → Begins x a y low join → size low ≤ end → end ≤ 56 * length frags → Got a frags low b end → Goes x (y b) frags low (a.onto b low) (join b)
begin_got x a y frags low join b end begins later within got = record {
  later = omega (arith, later, got.ends);
  within = omega (arith, within, got.ends);
  agree = subst (λ (n : ℕ). Agrees frags (a.onto b low) n) (sym got.ends) got.agree;
  fit = λ e f. begins.fit b e got.fit f;
  same = λ e f. begins.same b e got.fit f;
  told = λ d full f over agree.
      let (c, (fc, rest)) = begins.split d f in
      let one : c ≡ b = got.told c full fc (first_over x a y low full join begins d c rest.0 fc rest.1.1 rest.1.0 over) (subst (λ (n : ℕ). Agrees frags full n) got.ends agree) in
      subst (λ (b : a.what). (e : (y b).what) × ((d ≡ join b e) × (y b).fits e)) one rest;
  alive = λ some. begins.alive_more some b got.fit;
  lengths = λ e f n past. begins.lengths_rest b e got.fit f n past;
}

pub begin_halt : (x a : Shape) (y : a.what → Shape) (frags : List Frag) (low : List Leaf) (join : (b : a.what) → (y b).what → x.what) (n : ℕ) (is : List Leaf → Type 0)
    → Begins x a y low join → Halts a frags low n is → Halts x frags low n is
begin_halt x a y frags low join n is begins halts = record {
  none = λ d full f over agree.
      let (c, (fc, rest)) = begins.split d f in
      halts.none c full fc (first_over x a y low full join begins d c rest.0 fc rest.1.1 rest.1.0 over) agree;
}

-- a first thing that goes on, with something after it
pub begin_near : (stop : CallReadFault) (x a : Shape) (y : a.what → Shape) (frags : List Frag) (low : List Leaf) (join : (b : a.what) → (y b).what → x.what) (n : ℕ)
    → Begins x a y low join → x.alive → Near stop a frags low n → Near stop x frags low n
begin_near stop x a y frags low join n begins some near =
    let b = near.one in
    let (e, fe) = begins.more some b near.fit in
    let under = begins.over b e in
    let same : x.onto (join b e) low ≡ under.more ++ a.onto b low = begins.same b e near.fit fe ∙ under.is in
    let lengths : x.lengths (join b e) low n ≡ a.lengths b low n = begins.lengths_first b e near.fit fe n near.longer in
    let why = subst (λ (v : Bool). IsWhy stop (a.lengths b low n) v) (sym (covered_under under.more (a.onto b low) n near.longer)) near.why in
    record {
      one = join b e;
      fit = begins.fit b e near.fit fe;
      agree = subst (λ (ls : List Leaf). Agrees frags ls n) (sym same)
          (record { at = λ p small. near.agree.at p small ∙ sym (keeps under.more (a.onto b low) p (omega (arith, small, near.longer))) });
      longer = subst (λ (ls : List Leaf). n < size ls) (sym same) (omega (arith, near.longer, grows under.more (a.onto b low)));
      why = why_same stop (x.lengths (join b e) low n) (a.lengths b low n) (x.onto (join b e) low) (under.more ++ a.onto b low) n lengths same why;
    }

pub begin_cut : (x a : Shape) (y : a.what → Shape) (frags : List Frag) (low : List Leaf) (join : (b : a.what) → (y b).what → x.what) → Begins x a y low join → StreamCut a frags low → StreamCut x frags low
begin_cut x a y frags low join begins h = record {
  all = begin_halt x a y frags low join (56 * length frags) (λ full. 56 * length frags < size full) begins h.all;
  near = λ some. begin_near Short x a y frags low join (56 * length frags) begins some (h.near (begins.alive some));
}

pub begin_wrong : (stop : CallReadFault) (x a : Shape) (y : a.what → Shape) (frags : List Frag) (low : List Leaf) (join : (b : a.what) → (y b).what → x.what)
    → Begins x a y low join → Wrong stop a frags low → Wrong stop x frags low
begin_wrong stop x a y frags low join begins w = record {
  p = w.p;
  after = w.after;
  inside = w.inside;
  none = begin_halt x a y frags low join (w.p + 1) (λ full. ⊥) begins w.none;
  near = λ some. begin_near stop x a y frags low join w.p begins some (w.near (begins.alive some));
}

pub begin_stop : (x a : Shape) (y : a.what → Shape) (frags : List Frag) (low : List Leaf) (join : (b : a.what) → (y b).what → x.what) (stop : CallReadFault)
    → Begins x a y low join → Stops stop a frags low → Stops stop x frags low
begin_stop x a y frags low join Short begins h = begin_cut x a y frags low join begins h
begin_stop x a y frags low join Padding begins h = begin_wrong Padding x a y frags low join begins h
begin_stop x a y frags low join Value begins h = begin_wrong Value x a y frags low join begins h
begin_stop x a y frags low join Length begins h = begin_wrong Length x a y frags low join begins h
begin_stop x a y frags low join Memory begins h = tt

-- ---- the same from a place on, whatever agrees before it

abbrev pub Come : (x y : Shape) → List Frag → ℕ → ℕ → (y.what → x.what) → Type 0
Come x y frags start at join = (low : List Leaf) → start ≡ size low → Agrees frags low start → (now : List Leaf) × ((at ≡ size now) × Goes x y frags low now join)

pub come_self : (x : Shape) (frags : List Frag) (start : ℕ) → start ≤ 56 * length frags → Come x x frags start start (λ e. e)
come_self x frags start room = λ low at agree. (low, (at, goes_self x frags low (omega (arith, room, at)) (subst (λ (n : ℕ). Agrees frags low n) at agree)))

pub come_read : (x y a : Shape) (z : a.what → Shape) (frags : List Frag) (start at end : ℕ) (join : y.what → x.what) (next : (b : a.what) → (z b).what → y.what) (b : a.what)
    → Come x y frags start at join → ((low : List Leaf) → Begins y a z low next) → at ≤ end → end ≤ 56 * length frags → ReadAt a frags at b end
    → Come x (z b) frags start end (λ e. join (next b e))
come_read x y a z frags start at end join next b come begins later within read = λ low here agree.
    let (now, (same, goes)) = come low here agree in
    let got = read now same (subst (λ (n : ℕ). Agrees frags now n) (sym same) goes.agree) in (
      a.onto b now,
      (
        sym got.ends,
        goes_on x y (z b) frags low now (a.onto b now) join (next b) goes
            (begin_got y a z frags now next b end (begins now) (omega (arith, same, later)) within got),
      ),
    )

pub come_join : (x y : Shape) (frags : List Frag) (start at : ℕ) (join other : y.what → x.what) → ((e : y.what) → join e ≡ other e) → Come x y frags start at join → Come x y frags start at other
come_join x y frags start at join other e come = λ low here agree.
    let (now, (same, goes)) = come low here agree in
    (now, (same, goes_join x y frags low now join other e goes))

pub come_stop : (x y a : Shape) (z : a.what → Shape) (frags : List Frag) (start at : ℕ) (join : y.what → x.what) (next : (b : a.what) → (z b).what → y.what) (stop : CallReadFault)
    → Come x y frags start at join → ((low : List Leaf) → Begins y a z low next) → StopsAt stop a frags at → StopsAt stop x frags start
come_stop x y a z frags start at join next stop come begins stops = λ low here agree.
    let (now, (same, goes)) = come low here agree in
    goes_stop x y frags low now join stop goes
    (begin_stop y a z frags now next stop (begins now) (stops now same (subst (λ (n : ℕ). Agrees frags now n) (sym same) goes.agree)))

pub come_done : (x y : Shape) (frags : List Frag) (start at end : ℕ) (join : y.what → x.what) (d : y.what) → Come x y frags start at join → at ≤ end → ReadAt y frags at d end
    → ReadAt x frags start (join d) end
come_done x y frags start at end join d come later read = λ low here agree.
    let (now, (same, goes)) = come low here agree in
    goes_got x y frags low now join d end goes (omega (arith, same, later)) (read now same (subst (λ (n : ℕ). Agrees frags now n) (sym same) goes.agree))

pub first_stop : (x a : Shape) (y : a.what → Shape) (frags : List Frag) (at : ℕ) (join : (b : a.what) → (y b).what → x.what) (stop : CallReadFault) → ((low : List Leaf) → Begins x a y low join)
    → StopsAt stop a frags at → StopsAt stop x frags at
first_stop x a y frags at join stop begins stops = λ low here agree. begin_stop x a y frags low join stop (begins low) (stops low here agree)

-- what is left is not read
pub come_rest : (x y : Shape) (frags : List Frag) (start at : ℕ) (join : y.what → x.what) (stop : CallReadFault) → Come x y frags start at join → StopsAt stop y frags at → StopsAt stop x frags start
come_rest x y frags start at join stop come stops = λ low here agree.
    let (now, (same, goes)) = come low here agree in
    goes_stop x y frags low now join stop goes (stops now same (subst (λ (n : ℕ). Agrees frags now n) (sym same) goes.agree))
