-- In a sound state the monitors' messages under way are due, answers come once, and entries stand where they are due and
-- nowhere else: kept by each step.
use Rattle.std.proofs.Common.{◌≡◌, refl, sym, ◌∙◌, ap, subst, ℕ, zero, suc, ◌+◌, ◌-◌, ◌<◌, false}
use Rattle.std.proofs.Common.{List, [], ◌++◌, length, map, slice_get, Option, Some, None, arith}
use Rattle.std.specs.Prelude.{filter_map}
use Rattle.std.specs.List.{range_with_len}
use Rattle.std.proofs.lemmas.List.{length-map}
use Rattle.std.proofs.lemmas.Bool.{ne_eqb, or_from}
use Rattle.fl_base.specs.declared.identity.EndId.{EndId}
use Rattle.fl_base.specs.Given.{given}
use Rattle.fl_lists.specs.ThreeLists.{is_in, NoRepeat}
use Rattle.fl_hop.specs.declared.links.LinkState.{LinkState}
use Rattle.fl_hop.specs.Numbers.{number}
use Rattle.fl_hop.proofs.Lists.{at_within, within}
use Rattle.fl_hop.proofs.Numbering.{number_once}
use Rattle.fl_model.specs.Events.{Event}
use Rattle.fl_model.specs.Rings.{MonitorLabel}
use Rattle.fl_model.specs.Monitors.{Core, Link, link_to}
use Rattle.fl_model.specs.State.{Route, Back, Binding, State, core_of, link_between, own_ring}
use Rattle.fl_model.specs.Step.{step}
use Rattle.fl_model.specs.Standing.{Routed, core_at, link_state, opening_number}
use Rattle.fl_model.specs.SoundPlaces.{CoreStands, core_to, this_end}
use Rattle.fl_model.specs.SoundOpenings.{MessagesAreDue, AnswersComeOnce, OpeningsGo}
use Rattle.fl_model.specs.SoundEntries.{EntriesStand, EntriesAreDue, AnswersAreAwaited}
use Rattle.fl_model.specs.Sound.{Sound}
use Rattle.fl_model_laws.proofs.Views.{Part, part_of, sides_of, back_of, view, given_map}
use Rattle.fl_model_laws.proofs.PlacesStep.{given_some}
use Rattle.fl_model_laws.proofs.Hearing.{link_there}
use Rattle.fl_model_laws.proofs.Arriving.{place_is}
use Rattle.fl_model_laws.proofs.OpeningsKept.{at_link}
use Rattle.fl_model_laws.proofs.Boards.{IsRoute, Fits}
use Rattle.fl_model_laws.proofs.BoardViews.{line, part_line, route_in, said_in, board, under_way_is, fits_of, in_routed, messages_due, answers_once, entries_stand, entries_due, answers_awaited, unread_said}
use Rattle.fl_model_laws.proofs.BoardSaid.{Paired}
use Rattle.fl_model_laws.proofs.BoardHears.{PartStands, Whole}
use Rattle.fl_model_laws.proofs.BoardQuiet.{After, bound_fits, ring_fits, from_ring_fits, cores_fits, written_fits}
use Rattle.fl_model_laws.proofs.BoardLinks.{link_fits}
use Rattle.fl_model_laws.proofs.BoardBegins.{state_begun}
use Rattle.fl_model_laws.proofs.BoardBacks.{heard_board}
use Rattle.fl_model_laws.proofs.Leading.{Leads, view_leads}

-- ---- openings have different numbers

number_later : (a b k t n : ℕ) → k < t → is_in (number a b k) (map (number a b) (range_with_len t n)) ≡ false
number_later a b k t zero h = refl
number_later a b k t (suc n) h =
    or_from _ _ (ne_eqb (number a b t) (number a b k) (λ e. let f : t ≡ k = number_once a b t k e in absurd (omega arith))) (number_later a b k (t + 1) n (omega arith))

numbers_differ : (a b t n : ℕ) → NoRepeat (map (number a b) (range_with_len t n))
numbers_differ a b t zero = tt
numbers_differ a b t (suc n) = (number_later a b t (t + 1) n (omega arith), numbers_differ a b (t + 1) n)

-- ---- what is known of a sound state

line_was : (s : State) (a b : ℕ) → line (map part_of s.cores) a b ≡ link_between s a b
line_was s a b = given_map part_of None (part_line b) s.cores a

module _ (s : State) (sound : Sound s) where
  counts_there : (a b : ℕ) (link : Link) → link_between s a b ≡ Some link → (x : LinkState) × (link_state s a b ≡ Some x)
  counts_there a b link q =
      let (k, at, is) = given_some (core_of s a) (λ k. given (link_to b k) None (λ l. slice_get k.links l)) link q in
      let (l, to, there) = given_some (link_to b k) (λ l. slice_get k.links l) link is in
      let even = (sound.cores a k at).links in
      let inside = within k.links l link there in
      let (x, got) = at_within k.circuits.links l (omega arith) in (
        x,
        ap (λ o. given o None (λ (c : Core). given (link_to b c) None (λ m. slice_get c.circuits.links m))) at
            ∙ ap (λ o. given o None (λ m. slice_get k.circuits.links m)) to ∙ got,
      )

  said_none : (a b : ℕ) → link_between s a b ≡ None → link_between s b a ≡ None → said_in (map part_of s.cores) (map sides_of s.rings) a b ≡ []
  said_none a b p q =
      ap (λ o. given o [] (λ (l : Link). unread_said (map sides_of s.rings) l.ring) ++ given (line (map part_of s.cores) a b) [] (λ (l : Link). l.outbox))
      (line_was s b a ∙ q)
      ∙ ap (λ o. given o [] (λ (l : Link). l.outbox)) (line_was s a b ∙ p)

  lone_by : (a b : ℕ) (o : Option Link) → link_between s a b ≡ o → NoRepeat (filter_map opening_number (said_in (map part_of s.cores) (map sides_of s.rings) a b))
  lone_by a b (Some link) q =
      let p = sound.links a b link q in
      let (x, here) = counts_there a b link q in
      let (y, there) = counts_there b a p.back p.back_is in
      let go : OpeningsGo s a b x y = sound.openings a b x y here there in
      subst (λ (ms : List MonitorLabel). NoRepeat (filter_map opening_number ms)) (under_way_is s a b) (subst NoRepeat (sym go.numbers) (numbers_differ a b y.taken (x.opened - y.taken)))
  lone_by a b None q =
      subst (λ (ms : List MonitorLabel). NoRepeat (filter_map opening_number ms)) (sym (said_none a b q (none_back (link_between s b a) refl))) tt
    where
      none_back : (o : Option Link) → link_between s b a ≡ o → link_between s b a ≡ None
      none_back None e = e
      none_back (Some link) e = absurd (let p = sound.links b a link e in let f : None ≡ Some p.back = sym q ∙ p.back_is in cc)

  part_core : (n : ℕ) (p : Part) → slice_get (map part_of s.cores) n ≡ Some p → (k : Core) × (core_of s n ≡ Some k) × (part_of k ≡ p)
  part_core n p q =
      let (k, at, is) = given_some (slice_get s.cores n) (λ k. Some (part_of k)) p
      (sym (given_map part_of None (λ (y : Part). Some y) s.cores n) ∙ ap (λ (o : Option Part). given o None (λ y. Some y)) q) in
      (k, at, (let e : part_of k ≡ p = cc in e))

  part_stands : (n : ℕ) (p : Part) → slice_get (map part_of s.cores) n ≡ Some p → PartStands n p
  part_stands n p q =
      let (k, at, is) = part_core n p q in
      let c : CoreStands n k = sound.cores n k at in
      subst (PartStands n) is (record { number = c.number; even = c.links; table = c.table })

  lines_paired : Paired (line (map part_of s.cores))
  lines_paired = record {
    pair = λ a b x q. let p = sound.links a b x (sym (line_was s a b) ∙ q) in (p.back, line_was s b a ∙ p.back_is, p.same);
    one = λ a b c d x y p q e.
        let same : core_to a b ≡ core_to c d = sound.owners (core_to a b) (core_to c d) x.ring (x, sym (line_was s a b) ∙ p, refl) (y, sym (line_was s c d) ∙ q, sym e) in
        ((let f : a ≡ c = cc in f), (let f : b ≡ d = cc in f));
  }

  lines_within : (a b : ℕ) (l : Link) → line (map part_of s.cores) a b ≡ Some l → l.ring.ring < length (map sides_of s.rings)
  lines_within a b l q =
      let p = sound.links a b l (sym (line_was s a b) ∙ q) in
      let inside = within s.rings l.ring.ring p.ring p.ring_is in
      let long = length-map s.rings sides_of in omega arith

  lines_apart : (a b : ℕ) (l : Link) (e : EndId) (back : Back) → line (map part_of s.cores) a b ≡ Some l → slice_get (map back_of s.bindings) e.binding ≡ Some back
      → own_ring e.side back ≡ Some l.ring → ⊥
  lines_apart a b l e back q at own =
      let (x, there, is) = given_some (slice_get s.bindings e.binding) (λ (y : Binding). Some (back_of y)) back
      (sym (given_map back_of None (λ (y : Back). Some y) s.bindings e.binding) ∙ ap (λ (o : Option Back). given o None (λ y. Some y)) at) in
      let its : x.back ≡ back = cc in
      let same : core_to a b ≡ this_end e = sound.owners (core_to a b) (this_end e) l.ring (l, sym (line_was s a b) ∙ q, refl) (x, there, ap (own_ring e.side) its ∙ own) in
      absurd (cc)

  route_known : (n : ℕ) (route : Route) → route_in (map back_of s.bindings) n ≡ Some route → IsRoute route
  route_known n route q =
      let r : Routed s n route = in_routed s n route q in
      let leads = sound.routes n route r in
      let go = sound.numbers n route r in
      record {
        differ = leads.differ;
        apart = λ i j a b e. sym (place_is route.cores i (core_at route i) a refl leads.differ) ∙ place_is route.cores j (core_at route i) b (sym e) leads.differ;
        some = go.some;
        few = go.few;
        verdict = sound.verdicts n route r;
      }

  pub sound_whole : Whole (view s)
  sound_whole = record {
    known = record {
      fits = fits_of s sound.messages sound.answers sound.entries sound.only_entries sound.awaited;
      lone = λ a b. lone_by a b (link_between s a b) refl;
      routes = route_known;
      once = λ m n p q i j a b one. sound.numbers_once m n p q i j (in_routed s m p a) (in_routed s n q b) one;
      back = λ m n p q i j a b one. sound.numbers_once_back m n p q i j (in_routed s m p a) (in_routed s n q b) one;
    };
    parts = part_stands;
    paired = lines_paired;
    within = lines_within;
    apart = lines_apart;
  }

-- ---- the laws

whole_leads : Leads Whole After
whole_leads = record {
  weaker = λ v h. h.known.fits;
  cores = λ n s none h. cores_fits n s none;
  link = λ a b size s q h. link_fits a b size s h;
  bound = λ w n q s h. bound_fits w n q s h;
  ring = λ w size s h. ring_fits w size s h;
  route = λ w i cores k l c s want begins h. state_begun w cores k l c s begins h;
  from_ring = λ e b at s q r h. from_ring_fits e b at s q r h;
  monitor_written = λ here link m s k q r h.
      let (x, e, f) = at_link here s k in
      written_fits here link m s k q r (link_there s here k) (ap (λ n. link_between s n here.neighbour) (sym e) ∙ ap (λ n. link_between s k.core n) (sym f) ∙ q) h;
  heard = λ here m first k s j q r t h. heard_board here m first k s j q r t h;
}

board_after : (s : State) (v : Event) → Sound s → Fits (board (view (step s v).state))
board_after s v sound = view_leads Whole After whole_leads s v (record { known = sound_whole s sound; bare = λ e. (sound.bare e).bindings })

pub sound_messages : (s : State) (v : Event) → Sound s → MessagesAreDue (step s v).state
sound_messages s v sound = messages_due (step s v).state (board_after s v sound)

pub sound_answers : (s : State) (v : Event) → Sound s → AnswersComeOnce (step s v).state
sound_answers s v sound = answers_once (step s v).state (board_after s v sound)

pub sound_entries : (s : State) (v : Event) → Sound s → EntriesStand (step s v).state
sound_entries s v sound = entries_stand (step s v).state (board_after s v sound)

pub sound_only_entries : (s : State) (v : Event) → Sound s → EntriesAreDue (step s v).state
sound_only_entries s v sound = entries_due (step s v).state (board_after s v sound)

pub sound_awaited : (s : State) (v : Event) → Sound s → AnswersAreAwaited (step s v).state
sound_awaited s v sound = answers_awaited (step s v).state (board_after s v sound)
