-- What a forward adds to a stretch.
use Rattle.std.proofs.Common.{Bool, true, false, ◌++◌, ◌≡◌, ◌≢◌, refl, sym, ap, subst, ◌∙◌, ℕ, ◌==◌, inl, inr, List, [], ◌∷◌, ◌++◌, length, slice_get, slice_set, length-set, Some, Result, Ok, Err}
use Rattle.fl_base.specs.declared.fragment.Frag.{Frag}
use Rattle.fl_base.specs.declared.identity.LinkId.{LinkId}
use Rattle.fl_base.specs.declared.identity.Circuit.{Circuit}
use Rattle.fl_base.specs.Control.{with_circuit, bare}
use Rattle.fl_link.specs.Looks.{Look, Looks, LinkStep, placed, no_room, spent, saw, saw_ack, found, found_ack, missed}
use Rattle.fl_hop.specs.declared.entry.HopTarget.{HopTarget}
use Rattle.fl_hop.specs.declared.entry.HopTarget.TheVariants.{Link, End}
use Rattle.fl_hop.specs.declared.forward.HopFront.{HopFront}
use Rattle.fl_hop.specs.declared.forward.HopFront.TheVariants.{Nothing, Acknowledged, Monitor, Goes}
use Rattle.fl_hop.specs.declared.forward.ForwardOutcome.{ForwardOutcome}
use Rattle.fl_hop.specs.declared.forward.ForwardOutcome.TheVariants.{Moved, Full, Spent}
use Rattle.fl_hop.specs.declared.forward.Forwarded.{Forwarded}
use Rattle.fl_hop.specs.declared.forward.Forwarded.TheVariants as is
use Rattle.fl_hop.specs.declared.fault.HopFault.{HopFault}
use Rattle.fl_hop.specs.declared.fault.HopFault.TheVariants.{Marked, Misrouted, NoLink, UsedUp, Limit, Memory}
use Rattle.fl_hop.specs.Joined.{Sound}
use Rattle.fl_hop.specs.OfCircuit.{as_carried}
use Rattle.fl_hop.specs.Stretch.{passed, TableStep, if_so, taken_from, put_on, same_end}
use Rattle.fl_hop.specs.Forward.{BeforeAfter, ForwardSides, LinkOfTable, ForwardedFrag, as_sent, Finds, put_label, Leaves, Passes, Looked, WentOn, Forwards}
use Rattle.fl_hop.specs.Adds.{if_moved, steps_of, gone_to, Takes, Puts, Adds, SideAdds, ForwardAdds}
use Rattle.fl_hop.proofs.Lists.{set_cases}
use Rattle.fl_hop.proofs.Laws.{later_same, is_eq, not_eq, end_same}
use Rattle.fl_hop.proofs.Crossing.{change}

-- The step of a passage.

abbrev pub step_of : LinkOfTable → Frag → HopTarget → TableStep
step_of at frag way = record { moment = at.table; circuit_event = passed at.link frag way }

-- one fragment, or none, and nothing else
one_so : (so : Bool) (frag : Frag) → so ≡ true → frag ∷ [] ≡ if_so so frag ++ []
one_so true frag e = refl
one_so false frag e = absurd (cc)

none_so : (so : Bool) (frag : Frag) → so ≡ false → [] ≡ if_so so frag ++ []
none_so true frag e = absurd (cc)
none_so false frag e = refl

took_one : (at : LinkOfTable) (frag : Frag) (way : HopTarget) → bare frag ∷ [] ≡ taken_from at.link (step_of at frag way ∷ [])
took_one at frag way = one_so (at.link == at.link) (bare frag) (is_eq at.link at.link refl)

gone_one : (at : LinkOfTable) (frag : Frag) (way : HopTarget) → bare (as_sent way frag) ∷ [] ≡ gone_to way (step_of at frag way ∷ [])
gone_one at frag (Link m c) = one_so (m.0 == m.0) (bare (with_circuit c.0 frag)) (is_eq m.0 m.0 refl)
gone_one at frag (End e) = one_so (same_end e e) (as_carried frag) (end_same e)

gone_none : (way : HopTarget) → [] ≡ gone_to way []
gone_none (Link m c) = refl
gone_none (End e) = refl

-- nothing was taken from another link, and nothing put on another
took_off : (at : LinkOfTable) (frag : Frag) (way : HopTarget) (o : ForwardOutcome) (k : ℕ) → at.link ≢ k → [] ≡ taken_from k (if_moved o (step_of at frag way))
took_off at frag way Moved k n = none_so (at.link == k) (bare frag) (not_eq at.link k n)
took_off at frag way Full k n = refl
took_off at frag way Spent k n = refl

put_off : (at : LinkOfTable) (frag : Frag) (m : LinkId) (c : Circuit) (o : ForwardOutcome) (k : ℕ) → m.0 ≢ k → [] ≡ put_on k (if_moved o (step_of at frag (Link m c)))
put_off at frag m c Moved k n = none_so (m.0 == k) (bare (with_circuit c.0 frag)) (not_eq m.0 k n)
put_off at frag m c Full k n = refl
put_off at frag m c Spent k n = refl

module _ {T P : Type 0} (takes : T → Look → T → Type 0) (puts : P → Look → P → Type 0) (front : T → Look) (at : LinkOfTable) (sound : Sound at.table) (frag : Frag) (way : HopTarget) (lent : ForwardSides T P) (seen : T) (sees : Finds takes front at (Ok (Goes frag way)) (change lent.from.before seen)) where
  adds_by : (o : ForwardOutcome) → Leaves takes o (bare frag) (change seen lent.from.after) → puts lent.onto.before (put_label o (bare (as_sent way frag))) lent.onto.after → Adds takes puts at (record { frag = frag; way = way; outcome = o }) lent
  adds_by Moved left put = record {
    went = (later_same at.table, record { sound = sound; led = sees.3 }, later_same at.table);
    taken = (saw (bare frag) ∷ found (bare frag) ∷ [], (seen, sees.0, (lent.from.after, left, refl)), took_one at frag way, refl);
    put = (placed (bare (as_sent way frag)) ∷ [], (lent.onto.after, put, refl), refl, gone_one at frag way);
  }
  adds_by Full left put = record {
    went = later_same at.table;
    taken = (saw (bare frag) ∷ [], (seen, sees.0, sym left), refl, refl);
    put = (no_room ∷ [], (lent.onto.after, put, refl), refl, gone_none way);
  }
  adds_by Spent left put = record {
    went = later_same at.table;
    taken = (saw (bare frag) ∷ [], (seen, sees.0, sym left), refl, refl);
    put = (spent ∷ [], (lent.onto.after, put, refl), refl, gone_none way);
  }

pub passage_adds : {T P : Type 0} (takes : T → Look → T → Type 0) (puts : P → Look → P → Type 0) (front : T → Look) (at : LinkOfTable) (p : ForwardedFrag) (lent : ForwardSides T P) → Sound at.table → Passes takes puts front at p lent → Adds takes puts at p lent
passage_adds takes puts front at p lent sound x = adds_by takes puts front at sound p.frag p.way lent x.seen x.sees p.outcome x.left x.put

-- A forward.

widen : {S : Type 0} (R Q : S → Look → S → Type 0) → ((s t : S) (look : Look) → R s look t → Q s look t) → (s t : S) (xs : List Look) → Looks R s xs t → Looks Q s xs t
widen R Q into s t [] h = h
widen R Q into s t (x ∷ xs) h = (h.0, into s h.0 x h.1, widen R Q into h.0 t xs h.2)

-- a look took nothing
looks_found : {T : Type 0} (takes : T → Look → T → Type 0) (front : T → Look) (at : LinkOfTable) (answer : Result HopFront HopFault) (side : BeforeAfter T) → Finds takes front at answer side → Takes takes [] side
looks_found takes front at (Ok Nothing) side h = (missed ∷ [], (side.after, h, refl), refl, refl)
looks_found takes front at (Ok Acknowledged) side h = (saw_ack ∷ found_ack ∷ [], (h.0, h.1, (side.after, h.2, refl)), refl, refl)
looks_found takes front at (Ok (Monitor frag)) side h = (saw (bare frag) ∷ [], (side.after, h.0, refl), refl, refl)
looks_found takes front at (Ok (Goes frag way)) side h = (saw (bare frag) ∷ [], (side.after, h.0, refl), refl, refl)
looks_found takes front at (Err Misrouted) side h = (saw (bare h.0) ∷ [], (side.after, h.1, refl), refl, refl)
looks_found takes front at (Err Marked) side h = (saw (bare h.0) ∷ [], (side.after, h.2, refl), refl, refl)
looks_found takes front at (Err NoLink) side h = absurd h
looks_found takes front at (Err UsedUp) side h = absurd h
looks_found takes front at (Err Limit) side h = absurd h
looks_found takes front at (Err Memory) side h = absurd h

same_some : {S : Type 0} (a b : S) → Some a ≡ Some b → a ≡ b
same_some a b e = cc

module _ {S : Type 0} (takes puts : S → Look → S → Type 0) (at : LinkOfTable) (sides : BeforeAfter (List S)) where
  side_taken : (k : ℕ) (steps : List TableStep) (b a : S) (side : BeforeAfter S) → b ≡ side.before → a ≡ side.after → Takes takes (taken_from k steps) (change b a) → [] ≡ put_on k steps → SideAdds takes puts steps k side
  side_taken k steps b a side e f h none =
      let wide = widen takes (LinkStep puts takes) (λ s t look r. inr r) b a h.0 h.1 in
      let P : S → Type 0 = λ s. Looks (LinkStep puts takes) s h.0 side.after in
      let Q : S → Type 0 = λ t. Looks (LinkStep puts takes) b h.0 t in
      (h.0, subst P e (subst Q f wide), h.2, h.3 ∙ none)

  side_put : (k : ℕ) (steps : List TableStep) (b a : S) (side : BeforeAfter S) → b ≡ side.before → a ≡ side.after → Puts puts (put_on k steps) (change b a) → [] ≡ taken_from k steps → SideAdds takes puts steps k side
  side_put k steps b a side e f h none =
      let wide = widen puts (LinkStep puts takes) (λ s t look r. inl r) b a h.0 h.1 in
      let P : S → Type 0 = λ s. Looks (LinkStep puts takes) s h.0 side.after in
      let Q : S → Type 0 = λ t. Looks (LinkStep puts takes) b h.0 t in
      (h.0, subst P e (subst Q f wide), h.2 ∙ none, h.3)

  side_same : (k : ℕ) (steps : List TableStep) (side : BeforeAfter S) → side.before ≡ side.after → [] ≡ taken_from k steps → [] ≡ put_on k steps → SideAdds takes puts steps k side
  side_same k steps side e x y = ([], e, x, y)

  -- only the side of the link was looked at
  looked_adds : (b a : S) → slice_get sides.before at.link ≡ Some b → sides.after ≡ slice_set sides.before at.link a → Takes takes [] (change b a) → ForwardAdds takes puts at sides
  looked_adds b a there rest h = record {
    steps = [];
    went = later_same at.table;
    as_many = ap length rest ∙ length-set sides.before at.link a;
    each = λ k side before after.
        elim (set_cases sides.before at.link a k side.after (ap (λ xs. slice_get xs k) (sym rest) ∙ after)) [
          | inl (same, is) ↦
              side_taken k [] b a side
              (same_some b side.before (sym there ∙ ap (λ i. slice_get sides.before i) (sym same) ∙ before))
              (sym is) h refl
          | inr (other, is) ↦ side_same k [] side (same_some side.before side.after (sym before ∙ is)) refl refl
        ];
  }

  -- nothing was done
  still_adds : sides.after ≡ sides.before → ForwardAdds takes puts at sides
  still_adds rest = record {
    steps = [];
    went = later_same at.table;
    as_many = ap length rest;
    each = λ k side before after. side_same k [] side (same_some side.before side.after (sym before ∙ ap (λ xs. slice_get xs k) (sym rest) ∙ after)) refl refl;
  }

  -- a fragment went on, or stayed
  onward_adds : (front : S → Look) (o : ForwardOutcome) → Sound at.table → WentOn takes puts front at o sides → ForwardAdds takes puts at sides
  onward_adds front o sound w =
      let p : ForwardedFrag = record { frag = w.frag; way = Link w.link w.circuit; outcome = o } in
      let adds = passage_adds takes puts front at p w.lent sound w.passes in
      let two : at.link ≢ w.link.0 = w.passes.sees.5.1 in
      let steps = steps_of at p in
      let half = slice_set sides.before at.link w.lent.from.after in
      record {
        steps = steps;
        went = adds.went;
        as_many = ap length w.rest ∙ length-set half w.link.0 w.lent.onto.after ∙ length-set sides.before at.link w.lent.from.after;
        each = λ k side before after.
            elim (set_cases half w.link.0 w.lent.onto.after k side.after (ap (λ xs. slice_get xs k) (sym w.rest) ∙ after)) [
              | inl (same, is) ↦
                  subst (λ i. SideAdds takes puts steps i side) (sym same)
                  (side_put w.link.0 steps w.lent.onto.before w.lent.onto.after side
                  (same_some w.lent.onto.before side.before (sym w.onward ∙ ap (λ i. slice_get sides.before i) (sym same) ∙ before))
                  (sym is) adds.put
                  (took_off at w.frag (Link w.link w.circuit) o w.link.0 two))
              | inr (other, was) ↦
                  elim (set_cases sides.before at.link w.lent.from.after k side.after was) [
                    | inl (same, is) ↦
                        subst (λ i. SideAdds takes puts steps i side) (sym same)
                        (side_taken at.link steps w.lent.from.before w.lent.from.after side
                        (same_some w.lent.from.before side.before (sym w.there ∙ ap (λ i. slice_get sides.before i) (sym same) ∙ before))
                        (sym is) adds.taken
                        (put_off at w.frag w.link w.circuit o at.link (λ e. two (sym e))))
                    | inr (apart, is) ↦
                        side_same k steps side (same_some side.before side.after (sym before ∙ is))
                        (took_off at w.frag (Link w.link w.circuit) o k (λ e. apart (sym e)))
                        (put_off at w.frag w.link w.circuit o k (λ e. other (sym e)))
                  ]
            ];
      }

  by_look : (front : S → Look) (answer : Result HopFront HopFault) → Looked takes front at answer sides → ForwardAdds takes puts at sides
  by_look front answer x = looked_adds x.before x.after x.there x.rest (looks_found takes front at answer (change x.before x.after) x.sees)

  pub forward_adds : (front : S → Look) (answer : Result Forwarded HopFault) → Sound at.table → Forwards takes puts front at answer sides → ForwardAdds takes puts at sides
  forward_adds front (Ok is.Nothing) sound x = by_look front (Ok Nothing) x
  forward_adds front (Ok is.Acknowledged) sound x = by_look front (Ok Acknowledged) x
  forward_adds front (Ok (is.Monitor frag)) sound x = by_look front (Ok (Monitor frag)) x
  forward_adds front (Ok (is.Arrives frag e)) sound x = by_look front (Ok (Goes frag (End e))) x
  forward_adds front (Ok (is.Onward o)) sound x = onward_adds front o sound x
  forward_adds front (Err NoLink) sound x = still_adds x.1
  forward_adds front (Err Marked) sound x = by_look front (Err Marked) x
  forward_adds front (Err Misrouted) sound x = by_look front (Err Misrouted) x
  forward_adds front (Err UsedUp) sound x = by_look front (Err UsedUp) x
  forward_adds front (Err Limit) sound x = by_look front (Err Limit) x
  forward_adds front (Err Memory) sound x = by_look front (Err Memory) x
