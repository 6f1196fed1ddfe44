-- A side of a link goes under other numbers of bindings as it goes under its own: what it puts, sees and takes is renamed.
use Rattle.std.proofs.Common.{◌≡◌, ◌≢◌, ◌⊎◌, inl, inr, refl, sym, ◌∙◌, ap, subst, ℕ, zero, suc, ◌+◌, ◌-◌, ◌/◌, ◌%◌, ◌*◌, ◌^◌, ◌==◌, ◌&&◌, ◌<◌, ◌≤◌, nat_le, Bool, true, false, if◌then◌else◌, List, [], ◌∷◌, ◌++◌, length, map, drop, Option, Some, None, arith}
use Rattle.std.specs.List.{AllZip, list_all, range_with_len}
use Rattle.std.proofs.lemmas.Bool.Decides.{nat_tests}
use Rattle.fl_base.specs.declared.fragment.Frag.{Frag}
use Rattle.fl_base.specs.Control.{bare, body, stamped, told_of, is_ack_only, circuit_of}
use Rattle.fl_link.specs.Cursor.{epoch_at}
use Rattle.fl_link.specs.Looks.{Look, placed, no_room, spent, saw, saw_ack, found, missed, told, found_ack, kept}
use Rattle.fl_link.specs.Queue.{look_at}
use Rattle.fl_link.proofs.Carried.{bare-stamped, bare-bare}
use Rattle.fl_ring.proofs.Places.{epoch_bit}
use Rattle.fl_ring.specs.Counts.{count_from}
use Rattle.fl_ring.specs.Duo.{acknowledgement}
use Rattle.fl_ring.specs.SharedSides.{TheSide, SharedPuts, SharedTakes, Looked, MayStand, SideMayCome, KnowsSent, free_of, side_written, side_seen, side_taken, side_missed, side_counted}
use Rattle.fl_monitor.specs.declared.message.MonitorMessage.{MonitorMessage}
use Rattle.fl_monitor.specs.declared.message.MonitorMessage.TheVariants.{OpenCircuit, CircuitOpened, CircuitRefused}
use Rattle.fl_value_data.specs.declared.value.PlanNo.TheVariants.{One}
use Rattle.fl_wire.specs.Payload.{frag_on, payload_of}
use Rattle.fl_monitor.specs.Intermon.{intermon, call_for}
use Rattle.fl_monitor.specs.Saying.{Says}
use Rattle.fl_monitor.proofs.Single.{frag_for, one_each, says_bare, says_alone, says_no_other, says_the_same}
use Rattle.fl_cores_joined.specs.Rings.{FacingSide, standing_for, FindsWhatStood, Truly}
use Rattle.fl_cores_joined.specs.Joined.{facing}
use Rattle.fl_cores_joined.specs.Renamed.{Renaming, message_under, FragUnder, Standing, SeenUnder, Copy, copied}

module _ (r : Renaming) where
  -- ---- fragments

  -- epoch and count told are nothing to it
  pub alike : (f g f2 g2 : Frag) → bare f2 ≡ bare f → bare g2 ≡ bare g → FragUnder r f g → FragUnder r f2 g2
  alike f g f2 g2 p q (inl (same, none)) = inl (q ∙ same ∙ sym p, λ m s. none m (says_the_same f2 f m (sym p) s))
  alike f g f2 g2 p q (inr h) = inr (record { message = h.message; says = says_the_same f f2 h.message p h.says; under = says_the_same g g2 _ q h.under })

  -- there is one such fragment, epoch and count told aside
  pub one_renamed : (f g h : Frag) → FragUnder r f g → FragUnder r f h → bare g ≡ bare h
  one_renamed f g h (inl (p, none)) (inl (q, nor)) = p ∙ sym q
  one_renamed f g h (inl (p, none)) (inr x) =
      p ∙ says_bare f x.message x.says ∙ ap frag_for (sym (none x.message x.says)) ∙ sym (says_bare h (message_under r x.message) x.under)
  one_renamed f g h (inr x) (inl (q, nor)) =
      says_bare g (message_under r x.message) x.under ∙ ap frag_for (nor x.message x.says) ∙ sym (says_bare f x.message x.says) ∙ sym q
  one_renamed f g h (inr x) (inr y) =
      says_bare g (message_under r x.message) x.under
      ∙ ap (λ (m : MonitorMessage). frag_for (message_under r m)) (says_no_other f x.message y.message x.says y.says)
      ∙ sym (says_bare h (message_under r y.message) y.under)

  pub one_standing : (f g h : Frag) → Standing r f g → Standing r f h → g ≡ h
  one_standing f g h (a, x) (b, y) =
      let words = ap (λ (z : Frag). z.words) (one_renamed f g h x y) in
      let control = a ∙ sym b in
      λ i. record { words = words i; control = control i }

  -- the same bits between epoch and count
  same_number : (m : MonitorMessage) → (call_for (message_under r m)).msg ≡ (call_for m).msg
  same_number (OpenCircuit c binding service path) = refl
  same_number (CircuitOpened c) = refl
  same_number (CircuitRefused c reason) = refl

  abbrev first_frag : MonitorMessage → Frag
  first_frag m = frag_on 0 (call_for m).msg (payload_of One intermon (call_for m)) 0

  first_in : (x y : Frag) (xs ys : List Frag) → x ∷ xs ≡ y ∷ ys → x ≡ y
  first_in x y xs ys e = cc

  bare_is : (g : Frag) (m : MonitorMessage) → Says g m → bare g ≡ first_frag m
  bare_is g m s =
      first_in (bare g) (first_frag m) [] []
      (s.means ∙ ap (λ (n : ℕ). map (frag_on 0 (call_for m).msg (payload_of One intermon (call_for m))) (range_with_len 0 n)) (one_each m s.widths))

  same_control : (m : MonitorMessage) → (first_frag (message_under r m)).control ≡ (first_frag m).control
  same_control (OpenCircuit c binding service path) = refl
  same_control (CircuitOpened c) = refl
  same_control (CircuitRefused c reason) = refl

  pub same_body : (f g : Frag) → FragUnder r f g → body g.control ≡ body f.control
  same_body f g (inl (same, none)) = ap (λ (z : Frag). z.control) same
  same_body f g (inr x) =
      ap (λ (z : Frag). z.control) (bare_is g (message_under r x.message) x.under) ∙ same_control x.message
      ∙ sym (ap (λ (z : Frag). z.control) (bare_is f x.message x.says))

  ack_by : (f g : Frag) → bare g ≡ bare f → is_ack_only g ≡ is_ack_only f
  ack_by f g same =
      let words = ap (λ (z : Frag). z.words) same in
      let bits : g.control / 2 % 2 ^ 47 ≡ f.control / 2 % 2 ^ 47 = (let e = ap (λ (z : Frag). z.control) same in omega (arith, e)) in
      λ i. (bits i == 2) && list_all (λ (w : ℕ). w == 0) (words i)

  pub same_ack : (f g : Frag) → FragUnder r f g → is_ack_only g ≡ is_ack_only f
  same_ack f g (inl (same, none)) = ack_by f g same
  same_ack f g (inr x) = (says_alone g (message_under r x.message) x.under).no_ack ∙ sym (says_alone f x.message x.says).no_ack

  -- a call's fragment is the same, and what only acknowledges
  pub same_call : (f g : Frag) → circuit_of f.control ≢ 0 → FragUnder r f g → bare g ≡ bare f
  same_call f g some (inl (same, none)) = same
  same_call f g some (inr x) = absurd (some (says_alone f x.message x.says).circuit)

  pub calls_stay : (f : Frag) → circuit_of f.control ≢ 0 → FragUnder r f f
  calls_stay f some = inl (refl, λ m s. absurd (some (says_alone f m s).circuit))

  ack_stays : FragUnder r acknowledgement acknowledgement
  ack_stays = inl (refl, λ m s. absurd (let e : true ≡ false = (says_alone acknowledgement m s).no_ack in cc))

  pub stamp : (f g : Frag) (e n : ℕ) → e < 2 → FragUnder r f g → Standing r (stamped f e n) (stamped g e n)
  stamp f g e n small h = (
    ap (λ (b : ℕ). b + e + 2 ^ 48 * n) (same_body f g h),
    alike f g (stamped f e n) (stamped g e n) (bare-stamped f e n small) (bare-stamped g e n small) h,
  )

  -- ---- lists of them

  pub as_long : (fs gs : List Frag) → AllZip (Standing r) fs gs → length gs ≡ length fs
  as_long [] [] h = refl
  as_long [] (g ∷ gs) h = absurd h
  as_long (f ∷ fs) [] h = absurd h
  as_long (f ∷ fs) (g ∷ gs) h = let e = as_long fs gs h.1 in omega (arith, e)

  pub one_more : (fs gs : List Frag) (f g : Frag) → AllZip (Standing r) fs gs → Standing r f g → AllZip (Standing r) (fs ++ f ∷ []) (gs ++ g ∷ [])
  one_more [] [] f g h k = (k, tt)
  one_more [] (x ∷ gs) f g h k = absurd h
  one_more (x ∷ fs) [] f g h k = absurd h
  one_more (x ∷ fs) (y ∷ gs) f g h k = (h.0, one_more fs gs f g h.1 k)

  dropped : (n : ℕ) (fs gs : List Frag) → AllZip (Standing r) fs gs → AllZip (Standing r) (drop n fs) (drop n gs)
  dropped zero fs gs h = h
  dropped (suc n) [] [] h = tt
  dropped (suc n) [] (g ∷ gs) h = absurd h
  dropped (suc n) (f ∷ fs) [] h = absurd h
  dropped (suc n) (f ∷ fs) (g ∷ gs) h = dropped n fs gs h.1

  none_there : (gs : List Frag) → AllZip (Standing r) [] gs → gs ≡ []
  none_there [] h = refl
  none_there (g ∷ gs) h = absurd h

  record IsFirst (f : Frag) (gs : List Frag) : Type 0 where
    first : Frag
    rest : List Frag
    is : gs ≡ first ∷ rest
    stands : Standing r f first

  first_there : (f : Frag) (fs gs : List Frag) → AllZip (Standing r) (f ∷ fs) gs → IsFirst f gs
  first_there f fs [] h = absurd h
  first_there f fs (g ∷ gs) h = record { first = g; rest = gs; is = refl; stands = h.0 }

  -- what was seen, there and back
  none_seen : (o p : Option Frag) → SeenUnder r o p → o ≡ None → p ≡ None
  none_seen None None h is = refl
  none_seen None (Some g) h is = absurd h
  none_seen (Some f) p h is = absurd (cc)

  record WasSeen (o : Option Frag) (g : Frag) : Type 0 where
    seen : Frag
    is : o ≡ Some seen
    stands : Standing r seen g

  was_seen : (o p : Option Frag) (g : Frag) → SeenUnder r o p → p ≡ Some g → WasSeen o g
  was_seen None None g h is = absurd (cc)
  was_seen None (Some x) g h is = absurd h
  was_seen (Some f) None g h is = absurd h
  was_seen (Some f) (Some x) g h is =
      let same : x ≡ g = cc in
      record { seen = f; is = refl; stands = subst (λ (z : Frag). Standing r f z) same h }

  -- ---- a look before a put

  module _ (s : TheSide) (c : Copy r s) where
    sent_long : length c.sent ≡ length s.sent
    sent_long = as_long s.sent c.sent c.sent_is

    got_long : length c.got ≡ length s.got
    got_long = as_long s.got c.got c.got_is

    free_same : free_of (copied r c) ≡ free_of s
    free_same = ap (λ (n : ℕ). s.size + s.known - n) sent_long

    abbrev missed_copy : Copy r (side_missed s)
    missed_copy = record { sent = c.sent; sent_is = c.sent_is; got = c.got; got_is = c.got_is; peeked = c.peeked; peeked_is = c.peeked_is }

    abbrev counted_copy : (n : ℕ) → Copy r (side_counted s n)
    counted_copy n = record { sent = c.sent; sent_is = c.sent_is; got = c.got; got_is = c.got_is; peeked = c.peeked; peeked_is = c.peeked_is }

    may_stand : (control : ℕ) → MayStand s control → MayStand (copied r c) control
    may_stand control h = record {
      due = h.due ∙ ap (epoch_at s.size) (sym got_long);
      seen = λ g is.
          let it = was_seen s.peeked c.peeked g c.peeked_is is in
          it.stands.0 ∙ h.seen it.seen it.is;
    }

    record LooksSo (need : ℕ) (m : TheSide) : Type 0 where
      copy : Copy r m
      same_sent : copy.sent ≡ c.sent
      same_got : copy.got ≡ c.got
      same_peeked : copy.peeked ≡ c.peeked
      looks : Looked need (copied r c) (copied r copy)

    by_test : {P : Type 0} (b : Bool) → (b ≡ true → P) → (b ≡ false → P) → P
    by_test true f g = f refl
    by_test false f g = g refl

    looks_so : (need : ℕ) (m : TheSide) → Looked need s m → LooksSo need m
    looks_so need m h =
        by_test (nat_le need (free_of s))
        (λ q.
        let enough : need ≤ free_of s = grind (arith, nat_tests, q) in
        subst (LooksSo need) (sym (h.by_known enough)) (record {
          copy = c;
          same_sent = refl;
          same_got = refl;
          same_peeked = refl;
          looks = record {
            by_known = λ known. refl;
            by_look = λ few. (let same = free_same in absurd (omega (arith, few, same, enough)));
          };
        }))
        (λ q.
        let few : free_of s < need = grind (arith, nat_tests, q) in
        elim (h.by_look few) [
          | inl (unseen, is) ↦ subst (LooksSo need) (sym is) (record {
            copy = missed_copy;
            same_sent = refl;
            same_got = refl;
            same_peeked = refl;
            looks = record {
              by_known = λ known. (let same = free_same in absurd (omega (arith, few, same, known)));
              by_look = λ less. inl (none_seen s.peeked c.peeked c.peeked_is unseen, refl);
            };
          })
          | inr (control, may, is, knows) ↦ subst (λ (t : TheSide). KnowsSent t → LooksSo need t) (sym is)
              (λ sent. record {
                copy = counted_copy (count_from s.known (told_of control));
                same_sent = refl;
                same_got = refl;
                same_peeked = refl;
                looks = record {
                  by_known = λ known. (let same = free_same in absurd (omega (arith, few, same, known)));
                  by_look = λ less. inr (control, may_stand control may, refl, (let long = sent_long in omega (arith, sent, long)));
                };
              })
              knows
        ])

    -- ---- a fragment is written

    abbrev written_copy : (f g : Frag) → FragUnder r f g → Copy r (side_written s f)
    written_copy f g h = record {
      sent = c.sent ++ stamped g (epoch_at s.size (length c.sent)) (length c.got % 65536) ∷ [];
      sent_is = one_more s.sent c.sent (stamped f (epoch_at s.size (length s.sent)) (length s.got % 65536))
          (stamped g (epoch_at s.size (length c.sent)) (length c.got % 65536)) c.sent_is
          (subst (λ (n : ℕ). Standing r (stamped f (epoch_at s.size (length s.sent)) (length s.got % 65536))
          (stamped g (epoch_at s.size n) (length c.got % 65536)))
          (sym sent_long)
          (subst (λ (n : ℕ). Standing r (stamped f (epoch_at s.size (length s.sent)) (length s.got % 65536))
          (stamped g (epoch_at s.size (length s.sent)) (n % 65536)))
          (sym got_long)
          (stamp f g (epoch_at s.size (length s.sent)) (length s.got % 65536) (epoch_bit s.size (length s.sent)) h)));
      got = c.got;
      got_is = c.got_is;
      peeked = c.peeked;
      peeked_is = c.peeked_is;
    }

    written_so : (f g : Frag) (h : FragUnder r f g) → copied r (written_copy f g h) ≡ side_written (copied r c) g
    written_so f g h = λ i. record (copied r (written_copy f g h)) { told = sym got_long i }

  -- ---- what stood there

  module _ (x : FacingSide) (c : Copy r x.side) (d : Copy r x.across) where
    stood : AllZip (Standing r) (standing_for x.side x.across) (standing_for (copied r c) (copied r d))
    stood =
        subst (λ (n : ℕ). AllZip (Standing r) (standing_for x.side x.across) (drop n d.sent)) (sym (got_long x.side c))
        (dropped (length x.side.got) x.across.sent d.sent d.sent_is)

    -- a step that takes nothing finds the same
    finds_so : (t : TheSide) (k : Copy r t) → k.got ≡ c.got → FindsWhatStood (standing_for x.side x.across) x.side t
        → FindsWhatStood (standing_for (copied r c) (copied r d)) (copied r c) (copied r k)
    finds_so t k same h = record {
      nothing = λ more.
          none_there (standing_for (copied r c) (copied r d))
          (subst (λ (fs : List Frag). AllZip (Standing r) fs (standing_for (copied r c) (copied r d))) (h.nothing more) stood);
      something = λ stays loads.
          let it = h.something stays loads in
          let there = first_there it.first it.rest (standing_for (copied r c) (copied r d))
          (subst (λ (fs : List Frag). AllZip (Standing r) fs (standing_for (copied r c) (copied r d))) it.stood_is stood) in
          record {
            first = there.first;
            rest = there.rest;
            stood_is = there.is;
            known = it.known ∙ ap (λ (n : ℕ). count_from x.side.known (told_of n)) (sym there.stands.0);
            saw = λ g is.
                let seen = was_seen t.peeked k.peeked g k.peeked_is is in
                one_standing it.first g there.first
                (subst (λ (z : Frag). Standing r z g) (it.saw seen.seen seen.is) seen.stands) there.stands;
            took = inl same;
          };
    }

    -- ---- a put

    abbrev there_copied : FacingSide
    there_copied = facing (copied r c) (copied r d)

    -- what a step comes to for the copies
    pub record StepsSo (Step : TheSide → Look → TheSide → Type 0) (look : Look) (t : TheSide) : Type 0 where
      pub copy : Copy r t
      pub steps : Truly Step there_copied look (facing (copied r copy) (copied r d))

    pub puts_so : (f g : Frag) (t : TheSide) → FragUnder r f g → SharedPuts x.side (placed f) t
        → FindsWhatStood (standing_for x.side x.across) x.side t → StepsSo SharedPuts (placed g) t
    puts_so f g t h (plain, most, (m, looks, room, is)) finds =
        let long = sent_long x.side c in
        let look = looks_so x.side c 2 m looks in
        subst (λ (u : TheSide). FindsWhatStood (standing_for x.side x.across) x.side u → StepsSo SharedPuts (placed g) u) (sym is)
        (λ found_it. record {
          copy = written_copy m look.copy f g h;
          steps = (
            (
              same_ack f g h ∙ plain,
              omega (arith, most, long),
              (copied r look.copy, look.looks, (let free = free_same m look.copy in omega (arith, room, free)), written_so m look.copy f g h),
            ),
            finds_so (side_written m f) (written_copy m look.copy f g h) look.same_got found_it,
            refl,
          );
        })
        finds

    pub no_room_so : (t : TheSide) → SharedPuts x.side no_room t → FindsWhatStood (standing_for x.side x.across) x.side t → StepsSo SharedPuts no_room t
    no_room_so t (most, looks, few, little) finds =
        let long = sent_long x.side c in
        let look = looks_so x.side c 2 t looks in
        record {
          copy = look.copy;
          steps = (
            (
              omega (arith, most, long),
              look.looks,
              (let free = free_same x.side c in omega (arith, few, free)),
              (let free = free_same t look.copy in omega (arith, little, free)),
            ),
            finds_so t look.copy look.same_got finds,
            refl,
          );
        }

    pub spent_so : (t : TheSide) → SharedPuts x.side spent t → FindsWhatStood (standing_for x.side x.across) x.side t → StepsSo SharedPuts spent t
    spent_so t (all, is) finds =
        let long = sent_long x.side c in
        subst (λ (u : TheSide). FindsWhatStood (standing_for x.side x.across) x.side u → StepsSo SharedPuts spent u) (sym is)
        (λ found_it. record { copy = c; steps = ((long ∙ all, refl), finds_so x.side c refl found_it, refl) })
        finds

    -- ---- a look, and a take

    -- the first fragment was looked at: what stands there for the copies
    record LooksAtFirst (one : Frag) : Type 0 where
      first : Frag
      rest : List Frag
      is : standing_for (copied r c) (copied r d) ≡ first ∷ rest
      stands : Standing r one first

    looks_at : (one : Frag) (t : TheSide) → FindsWhatStood (standing_for x.side x.across) x.side t → t.misses ≡ x.side.misses → x.side.loads < t.loads
        → ((first : Frag) → t.known ≡ count_from x.side.known (told_of first.control) → ((frag : Frag) → t.peeked ≡ Some frag → frag ≡ first)
        → ((t.got ≡ x.side.got) ⊎ (t.got ≡ x.side.got ++ first ∷ [])) → one ≡ first) → LooksAtFirst one
    looks_at one t h stays loads same =
        let it = h.something stays loads in
        let there = first_there it.first it.rest (standing_for (copied r c) (copied r d))
        (subst (λ (fs : List Frag). AllZip (Standing r) fs (standing_for (copied r c) (copied r d))) it.stood_is stood) in
        record {
          first = there.first;
          rest = there.rest;
          is = there.is;
          stands = subst (λ (z : Frag). Standing r z there.first) (sym (same it.first it.known it.saw it.took)) there.stands;
        }

    may_come : (one first : Frag) → Standing r one first → SideMayCome x.side one → SideMayCome (copied r c) first
    may_come one first stands may g is =
        let seen = was_seen x.side.peeked c.peeked g c.peeked_is is in
        one_standing one first g stands (subst (λ (z : Frag). Standing r z g) (sym (may seen.seen seen.is)) seen.stands)

    -- what is seen by a look at a fragment
    plain_of : (one frag : Frag) → look_at one ≡ saw frag → (is_ack_only one ≡ false) × (frag ≡ bare one)
    plain_of one frag look = by (is_ack_only one) refl
      where
        by : (b : Bool) → is_ack_only one ≡ b → (is_ack_only one ≡ false) × (frag ≡ bare one)
        by true q = absurd (let e : saw_ack ≡ saw frag = sym (ap (λ (b : Bool). if b then saw_ack else saw (bare one)) q) ∙ look in cc)
        by false q =
            (q, (let e : saw frag ≡ saw (bare one) = sym look ∙ ap (λ (b : Bool). if b then saw_ack else saw (bare one)) q in cc))

    ack_of : (one : Frag) → look_at one ≡ saw_ack → is_ack_only one ≡ true
    ack_of one look = by (is_ack_only one) refl
      where
        by : (b : Bool) → is_ack_only one ≡ b → is_ack_only one ≡ true
        by true q = q
        by false q = absurd (let e : saw (bare one) ≡ saw_ack = sym (ap (λ (b : Bool). if b then saw_ack else saw (bare one)) q) ∙ look in cc)

    look_by : (one : Frag) (b : Bool) → is_ack_only one ≡ b → look_at one ≡ (if b then saw_ack else saw (bare one))
    look_by one b q = ap (λ (z : Bool). if z then saw_ack else saw (bare one)) q

    abbrev seen_copy : (one first : Frag) → Standing r one first → Copy r (side_seen x.side one)
    seen_copy one first stands = record {
      sent = c.sent;
      sent_is = c.sent_is;
      got = c.got;
      got_is = c.got_is;
      peeked = Some first;
      peeked_is = stands;
    }

    abbrev taken_copy : (one first : Frag) → Standing r one first → Copy r (side_taken x.side one)
    taken_copy one first stands = record {
      sent = c.sent;
      sent_is = c.sent_is;
      got = c.got ++ first ∷ [];
      got_is = one_more x.side.got c.got one first c.got_is stands;
      peeked = None;
      peeked_is = tt;
    }

    counts : (one first : Frag) → Standing r one first → count_from x.side.known (told_of one.control) ≡ count_from x.side.known (told_of first.control)
    counts one first stands = ap (λ (n : ℕ). count_from x.side.known (told_of n)) (sym stands.0)

    knows_so : (one : Frag) → count_from x.side.known (told_of one.control) ≤ length x.side.sent → count_from x.side.known (told_of one.control) ≤ length c.sent
    knows_so one knows = let long = sent_long x.side c in omega (arith, knows, long)

    -- by this look or take the copies find the first fragment that stands there
    finds_first : (one : Frag) (at : LooksAtFirst one) (u : TheSide) → u.misses ≡ x.side.misses → u.known ≡ count_from x.side.known (told_of at.first.control)
        → ((frag : Frag) → u.peeked ≡ Some frag → frag ≡ at.first) → ((u.got ≡ c.got) ⊎ (u.got ≡ c.got ++ at.first ∷ []))
        → FindsWhatStood (standing_for (copied r c) (copied r d)) (copied r c) u
    finds_first one at u stays known saw_it took = record {
      nothing = λ more. absurd (omega (arith, more, stays));
      something = λ same loads. record { first = at.first; rest = at.rest; stood_is = at.is; known = known; saw = saw_it; took = took };
    }

    same_seen : (first frag : Frag) → Some first ≡ Some frag → frag ≡ first
    same_seen first frag e = cc

    none_of : {P : Type 0} (frag : Frag) → None ≡ Some frag → P
    none_of frag e = absurd (cc)

    last_of : (xs : List Frag) (a b : Frag) → xs ++ a ∷ [] ≡ xs ++ b ∷ [] → a ≡ b
    last_of [] a b e = cc
    last_of (y ∷ xs) a b e = last_of xs a b (ap (drop 1) e)

    longer : (xs : List Frag) (a : Frag) → length (xs ++ a ∷ []) ≡ suc (length xs)
    longer [] a = refl
    longer (y ∷ xs) a = ap suc (longer xs a)

    took_one : (one first : Frag) → ((x.side.got ++ one ∷ [] ≡ x.side.got) ⊎ (x.side.got ++ one ∷ [] ≡ x.side.got ++ first ∷ [])) → one ≡ first
    took_one one first (inl same) = absurd (let e = ap length same in let long = longer x.side.got one in omega (arith, e, long))
    took_one one first (inr same) = last_of x.side.got one first same

    -- a look sees what is renamed
    pub sees_so : (f : Frag) (t : TheSide) → SharedTakes x.side (saw f) t → FindsWhatStood (standing_for x.side x.across) x.side t
        → (g : Frag) × FragUnder r f g × StepsSo SharedTakes (saw g) t
    sees_so f t (one, look, (may, is, knows)) finds =
        subst (λ (u : TheSide). FindsWhatStood (standing_for x.side x.across) x.side u → KnowsSent u
        → (g : Frag) × FragUnder r f g × StepsSo SharedTakes (saw g) u)
        (sym is)
        (λ found_it sent.
        let at = looks_at one (side_seen x.side one) found_it refl (omega arith) (λ first known saw_it took. saw_it one refl) in
        let (plain, frag_is) = plain_of one f look in
        let acks = same_ack one at.first at.stands.1 ∙ plain in (
          bare at.first,
          alike one at.first f (bare at.first) (ap bare frag_is ∙ bare-bare one) (bare-bare at.first) at.stands.1,
          record {
            copy = seen_copy one at.first at.stands;
            steps = (
              (
                at.first,
                look_by at.first false acks,
                (
                  may_come one at.first at.stands may,
                  (λ i. record (copied r (seen_copy one at.first at.stands)) { known = counts one at.first at.stands i }),
                  knows_so one sent,
                ),
              ),
              finds_first one at (copied r (seen_copy one at.first at.stands)) refl (counts one at.first at.stands) (same_seen at.first) (inl refl),
              refl,
            );
          },
        ))
        finds knows

    -- and a take takes it
    pub founds_so : (f : Frag) (t : TheSide) → SharedTakes x.side (found f) t → FindsWhatStood (standing_for x.side x.across) x.side t
        → (g : Frag) × FragUnder r f g × StepsSo SharedTakes (found g) t
    founds_so f t (one, look, (may, is, knows)) finds =
        subst (λ (u : TheSide). FindsWhatStood (standing_for x.side x.across) x.side u → KnowsSent u
        → (g : Frag) × FragUnder r f g × StepsSo SharedTakes (found g) u)
        (sym is)
        (λ found_it sent.
        let at = looks_at one (side_taken x.side one) found_it refl (omega arith) (λ first known saw_it took. took_one one first took) in
        let (plain, frag_is) = plain_of one f look in
        let acks = same_ack one at.first at.stands.1 ∙ plain in (
          bare at.first,
          alike one at.first f (bare at.first) (ap bare frag_is ∙ bare-bare one) (bare-bare at.first) at.stands.1,
          record {
            copy = taken_copy one at.first at.stands;
            steps = (
              (
                at.first,
                look_by at.first false acks,
                (
                  may_come one at.first at.stands may,
                  (λ i. record (copied r (taken_copy one at.first at.stands)) { known = counts one at.first at.stands i }),
                  knows_so one sent,
                ),
              ),
              finds_first one at (copied r (taken_copy one at.first at.stands)) refl (counts one at.first at.stands) (λ frag e. none_of frag e) (inr refl),
              refl,
            );
          },
        ))
        finds knows

    -- what only acknowledges is seen, and taken
    pub sees_ack_so : (t : TheSide) → SharedTakes x.side saw_ack t → FindsWhatStood (standing_for x.side x.across) x.side t → StepsSo SharedTakes saw_ack t
    sees_ack_so t (one, look, (may, is, knows)) finds =
        subst (λ (u : TheSide). FindsWhatStood (standing_for x.side x.across) x.side u → KnowsSent u → StepsSo SharedTakes saw_ack u) (sym is)
        (λ found_it sent.
        let at = looks_at one (side_seen x.side one) found_it refl (omega arith) (λ first known saw_it took. saw_it one refl) in
        let acks = same_ack one at.first at.stands.1 ∙ ack_of one look in
        record {
          copy = seen_copy one at.first at.stands;
          steps = (
            (
              at.first,
              look_by at.first true acks,
              (
                may_come one at.first at.stands may,
                (λ i. record (copied r (seen_copy one at.first at.stands)) { known = counts one at.first at.stands i }),
                knows_so one sent,
              ),
            ),
            finds_first one at (copied r (seen_copy one at.first at.stands)) refl (counts one at.first at.stands) (same_seen at.first) (inl refl),
            refl,
          );
        })
        finds knows

    pub founds_ack_so : (t : TheSide) → SharedTakes x.side found_ack t → FindsWhatStood (standing_for x.side x.across) x.side t
        → StepsSo SharedTakes found_ack t
    founds_ack_so t (one, look, (may, is, knows)) finds =
        subst (λ (u : TheSide). FindsWhatStood (standing_for x.side x.across) x.side u → KnowsSent u → StepsSo SharedTakes found_ack u) (sym is)
        (λ found_it sent.
        let at = looks_at one (side_taken x.side one) found_it refl (omega arith) (λ first known saw_it took. took_one one first took) in
        let acks = same_ack one at.first at.stands.1 ∙ ack_of one look in
        record {
          copy = taken_copy one at.first at.stands;
          steps = (
            (
              at.first,
              look_by at.first true acks,
              (
                may_come one at.first at.stands may,
                (λ i. record (copied r (taken_copy one at.first at.stands)) { known = counts one at.first at.stands i }),
                knows_so one sent,
              ),
            ),
            finds_first one at (copied r (taken_copy one at.first at.stands)) refl (counts one at.first at.stands) (λ frag e. none_of frag e) (inr refl),
            refl,
          );
        })
        finds knows

    -- there was too little to tell, or no room
    pub keeps_so : (t : TheSide) → SharedTakes x.side kept t → FindsWhatStood (standing_for x.side x.across) x.side t → StepsSo SharedTakes kept t
    keeps_so t (few, is) finds =
        let got = got_long x.side c in
        subst (λ (u : TheSide). FindsWhatStood (standing_for x.side x.across) x.side u → StepsSo SharedTakes kept u) (sym is)
        (λ found_it. record {
          copy = c;
          steps = ((subst (λ (n : ℕ). n - x.side.told < x.side.size / 2) (sym got) few, refl), finds_so x.side c refl found_it, refl);
        })
        finds

    pub no_tell_so : (t : TheSide) → SharedTakes x.side no_room t → FindsWhatStood (standing_for x.side x.across) x.side t → StepsSo SharedTakes no_room t
    no_tell_so t (enough, inl (all, is)) finds =
        let got = got_long x.side c in
        let long = sent_long x.side c in
        subst (λ (u : TheSide). FindsWhatStood (standing_for x.side x.across) x.side u → StepsSo SharedTakes no_room u) (sym is)
        (λ found_it. record {
          copy = c;
          steps = (
            (subst (λ (n : ℕ). x.side.size / 2 ≤ n - x.side.told) (sym got) enough, inl (long ∙ all, refl)),
            finds_so x.side c refl found_it,
            refl,
          );
        })
        finds
    no_tell_so t (enough, inr (most, looks, few, little)) finds =
        let got = got_long x.side c in
        let long = sent_long x.side c in
        let look = looks_so x.side c 1 t looks in
        record {
          copy = look.copy;
          steps = (
            (
              subst (λ (n : ℕ). x.side.size / 2 ≤ n - x.side.told) (sym got) enough,
              inr (
                omega (arith, most, long),
                look.looks,
                (let free = free_same x.side c in omega (arith, few, free)),
                (let free = free_same t look.copy in omega (arith, little, free)),
              ),
            ),
            finds_so t look.copy look.same_got finds,
            refl,
          );
        }

    -- nothing stands there for either
    pub misses_so : (t : TheSide) → SharedTakes x.side missed t → FindsWhatStood (standing_for x.side x.across) x.side t → StepsSo SharedTakes missed t
    misses_so t (unseen, is) finds =
        subst (λ (u : TheSide). FindsWhatStood (standing_for x.side x.across) x.side u → StepsSo SharedTakes missed u) (sym is)
        (λ found_it. record {
          copy = missed_copy x.side c;
          steps = ((none_seen x.side.peeked c.peeked c.peeked_is unseen, refl), finds_so (side_missed x.side) (missed_copy x.side c) refl found_it, refl);
        })
        finds

    -- what was taken is told
    pub tells_so : (t : TheSide) → SharedTakes x.side told t → FindsWhatStood (standing_for x.side x.across) x.side t → StepsSo SharedTakes told t
    tells_so t (enough, most, (m, looks, room, is)) finds =
        let long = sent_long x.side c in
        let got = got_long x.side c in
        let look = looks_so x.side c 1 m looks in
        subst (λ (u : TheSide). FindsWhatStood (standing_for x.side x.across) x.side u → StepsSo SharedTakes told u) (sym is)
        (λ found_it. record {
          copy = written_copy m look.copy acknowledgement acknowledgement ack_stays;
          steps = (
            (
              subst (λ (n : ℕ). x.side.size / 2 ≤ n - x.side.told) (sym got) enough,
              omega (arith, most, long),
              (
                copied r look.copy,
                look.looks,
                (let free = free_same m look.copy in omega (arith, room, free)),
                written_so m look.copy acknowledgement acknowledgement ack_stays,
              ),
            ),
            finds_so (side_written m acknowledgement) (written_copy m look.copy acknowledgement acknowledgement ack_stays) look.same_got found_it,
            refl,
          );
        })
        finds
