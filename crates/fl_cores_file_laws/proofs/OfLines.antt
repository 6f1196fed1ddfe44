-- What each line that is accepted adds to the draft: itself, where it sets something up, or its job; so the draft is of its lines.
use Rattle.std.proofs.Common.{◌≡◌, ◌⊎◌, inl, inr, refl, sym, ◌∙◌, ap, subst, ℕ, Bool, true, false, List, [], ◌∷◌, ◌++◌, length, reverse, nat_le}
use Rattle.std.proofs.Common.{nat_lt, not, ◌==◌, ◌&&◌, ◌||◌, if◌then◌else◌, Option, Some, None}
use mathlib.Core.List.{reverse-cons}
use Rattle.std.specs.Prelude.{filter, filter_map}
use Rattle.std.specs.List.{cons_option, list_any}
use Rattle.std.proofs.lemmas.List.{append-nil, map-append}
use Rattle.std.proofs.lemmas.List.Elements.{filter-append, filter_map-append}
use Rattle.fl_base.specs.declared.identity.Side.{Side}
use Rattle.fl_base.specs.declared.identity.Side.TheVariants.{Client, Server}
use Rattle.fl_base.specs.Numbered.{most_cores, most_bindings}
use Rattle.fl_model.specs.Events.{Event, Kind, by_queues, by_ring, by_route, add_interface, set_cores, add_link, add_dispatcher, export, bind}
use Rattle.fl_model.specs.Events as event
use Rattle.fl_model.specs.Given.{changed_at}
use Rattle.fl_model.specs.Making.{most_interfaces, most_dispatchers, most_services, is_ring_size}
use Rattle.fl_model_laws.proofs.Views.{map_kept}
use Rattle.fl_script_lines.specs.Asked.{is_taken}
use Rattle.fl_cores_file.specs.CoresFile.{which_opened}
use Rattle.fl_cores_file.specs.Draft.{Bound, Draft, Use, TheDraftRequest, takes, binds_by, call_fault, rule_fault, fault_at, with_use}
use Rattle.fl_cores_file.specs.Draft.{is_dispatcher, is_interface, makes_calls, has_rules, has_interface, is_core, has_link, has_both_places}
use Rattle.fl_cores_file.specs.Draft.{is_route as can_begin, offer_of}
use Rattle.fl_cores_file.specs.Verdicts.{stops, goes_on}
use Rattle.fl_cores_file_laws.specs.JobsJoin.{job_asked}
use Rattle.fl_cores_file_laws.specs.OfLines.{number_asked, settles_cores, opening_asked, IsOfLines, DraftsAreOfTheirLines}
use Rattle.fl_cores_file_laws.specs.SetUps.{sets_up}
use Rattle.fl_cores_file_laws.proofs.Changes.{goes_same, if_goes, given_goes, none_goes}

-- what a line adds to a draft
record Adds (v : Event) (c d : Draft) : Type 0 where
  setup : d.setup ≡ c.setup ++ filter sets_up (v ∷ [])
  jobs : d.jobs ≡ c.jobs ++ filter_map job_asked (v ∷ [])
  bindings : which_opened d.bindings ≡ which_opened c.bindings ++ filter_map opening_asked (v ∷ [])
  cores : ((number_asked v ≡ None) × (d.cores ≡ c.cores)) ⊎ ((number_asked v ≡ Some d.cores) × (c.settled ≡ false))
  settled : d.settled ≡ settles_cores v || c.settled

one_more : (bs : List Bound) (b : Bound) → which_opened (bs ++ b ∷ []) ≡ which_opened bs ++ b.is_opened ∷ []
one_more bs b = map-append (λ (x : Bound). x.is_opened) bs (b ∷ [])

same_used : (bs : List Bound) (n : ℕ) (s : Side) (u : Use) → which_opened (changed_at n (with_use s u) bs) ≡ which_opened bs ++ []
same_used bs n s u = map_kept (λ (x : Bound). x.is_opened) (with_use s u) bs n (λ b at. by s b) ∙ sym (append-nil (which_opened bs))
  where
    by : (t : Side) (b : Bound) → Bound.is_opened (with_use t u b) ≡ b.is_opened
    by Client b = refl
    by Server b = refl

-- a binding
bound_adds : (w : TheDraftRequest) (kind : Kind) (c d : Draft) → binds_by w kind c ≡ goes_on d → Adds (bind w.client w.interface w.service kind) c d
bound_adds w (by_queues slots) c d e =
    let f = (if_goes (not (has_both_places w c)) 54 _ _ (if_goes (nat_lt slots 1 || nat_lt 1024 slots) 32 _ _
    (if_goes (not (w.client.core == w.server.core)) 73 _ _ e).1).1).1 in
    subst (λ (x : Draft). Adds (bind w.client w.interface w.service (by_queues slots)) c x) (goes_same _ _ f) (record {
      setup = refl;
      jobs = sym (append-nil c.jobs);
      bindings = one_more c.bindings _;
      cores = inl (refl, refl);
      settled = refl;
    })
bound_adds w (by_ring size) c d e =
    let f = (if_goes (not (has_both_places w c)) 54 _ _ (if_goes (not (is_ring_size size)) 32 _ _ (if_goes (w.client.core == w.server.core) 73 _ _ e).1).1).1 in
    subst (λ (x : Draft). Adds (bind w.client w.interface w.service (by_ring size)) c x) (goes_same _ _ f) (record {
      setup = refl;
      jobs = sym (append-nil c.jobs);
      bindings = one_more c.bindings _;
      cores = inl (refl, refl);
      settled = refl;
    })
bound_adds w (by_route route) c d e =
    let f = (if_goes (not (can_begin w route c)) 73 _ _ e).1 in
    subst (λ (x : Draft). Adds (bind w.client w.interface w.service (by_route route)) c x) (goes_same _ _ f) (record {
      setup = sym (append-nil c.setup);
      jobs = refl;
      bindings = one_more c.bindings _;
      cores = inl (refl, refl);
      settled = refl;
    })

line_adds : (v : Event) (c d : Draft) → takes v c ≡ goes_on d → Adds v c d
line_adds (add_interface i plan) c d e =
    let f = (if_goes (nat_le most_interfaces (length c.interfaces)) 94 _ _ (if_goes (has_interface i.name c) 92 _ _ e).1).1 in
    subst (λ (x : Draft). Adds (add_interface i plan) c x) (goes_same _ _ f) (record {
      setup = refl;
      jobs = sym (append-nil c.jobs);
      bindings = sym (append-nil (which_opened c.bindings));
      cores = inl (refl, refl);
      settled = refl;
    })
line_adds (set_cores n) c d e =
    let first = if_goes c.settled 93 _ _ e in
    let f = (if_goes (nat_lt n 1 || nat_lt most_cores n) 94 _ _ first.1).1 in
    subst (λ (x : Draft). Adds (set_cores n) c x) (goes_same _ _ f) (record {
      setup = sym (append-nil c.setup);
      jobs = sym (append-nil c.jobs);
      bindings = sym (append-nil (which_opened c.bindings));
      cores = inr (refl, first.0);
      settled = refl;
    })
line_adds (add_link a b size) c d e =
    let f = (if_goes (not (is_ring_size size)) 32 _ _ (if_goes (not (is_core a c && is_core b c) || (a == b) || has_link a b c) 73 _ _ e).1).1 in
    subst (λ (x : Draft). Adds (add_link a b size) c x) (goes_same _ _ f) (record {
      setup = refl;
      jobs = sym (append-nil c.jobs);
      bindings = sym (append-nil (which_opened c.bindings));
      cores = inl (refl, refl);
      settled = refl;
    })
line_adds (add_dispatcher core) c d e =
    let f = (if_goes (not (is_core core c)) 73 _ _ (if_goes (nat_le most_dispatchers (length c.dispatchers)) 94 _ _ e).1).1 in
    subst (λ (x : Draft). Adds (add_dispatcher core) c x) (goes_same _ _ f) (record {
      setup = refl;
      jobs = sym (append-nil c.jobs);
      bindings = sym (append-nil (which_opened c.bindings));
      cores = inl (refl, refl);
      settled = refl;
    })
line_adds (export name x i) c d e =
    let f = (if_goes (nat_le most_services (length c.offers)) 94 _ _
    (if_goes (is_taken name c.services) 71 _ _ (if_goes (not (is_dispatcher x c && is_interface i c)) 92 _ _ e).1).1).1 in
    subst (λ (y : Draft). Adds (export name x i) c y) (goes_same _ _ f) (record {
      setup = refl;
      jobs = sym (append-nil c.jobs);
      bindings = sym (append-nil (which_opened c.bindings));
      cores = inl (refl, refl);
      settled = refl;
    })
line_adds (bind client i name kind) c d e =
    let few = if_goes (nat_le most_bindings (length c.bindings)) 94 _ _ (if_goes (not (is_dispatcher client c && is_interface i c)) 92 _ _ e).1 in
    let offered = given_goes (offer_of name c) 70 _ _ few.1 in
    let same = if_goes (not (offered.0.interface == i)) 72 _ _ offered.2 in
    bound_adds (record { client = client; server = offered.0.dispatcher; interface = i; service = name }) kind c d same.1
line_adds (event.call end x) c d e =
    let f = none_goes (fault_at end (call_fault end.side x) c) _ _ e in
    subst (λ (y : Draft). Adds (event.call end x) c y) (goes_same _ _ f.1) (record {
      setup = sym (append-nil c.setup);
      jobs = refl;
      bindings = same_used c.bindings end.binding end.side makes_calls;
      cores = inl (refl, refl);
      settled = refl;
    })
line_adds (event.reply end msg answer) c d e =
    let f = none_goes (fault_at end (rule_fault end.side msg answer) c) _ _ e in
    subst (λ (y : Draft). Adds (event.reply end msg answer) c y) (goes_same _ _ f.1) (record {
      setup = sym (append-nil c.setup);
      jobs = refl;
      bindings = same_used c.bindings end.binding end.side has_rules;
      cores = inl (refl, refl);
      settled = refl;
    })
line_adds v c d e = absurd (cc)

-- ---- lines

-- the same with one line more, at the end of those in order
module _ (v : Event) (lines : List Event) where
  filtered : (f : Event → Bool) → filter f (reverse (v ∷ lines)) ≡ filter f (reverse lines) ++ filter f (v ∷ [])
  filtered f = ap (filter f) (reverse-cons v lines) ∙ filter-append f (reverse lines) (v ∷ [])

  asked : {X : Type 0} (f : Event → Option X) → filter_map f (reverse (v ∷ lines)) ≡ filter_map f (reverse lines) ++ filter_map f (v ∷ [])
  asked f = ap (filter_map f) (reverse-cons v lines) ∙ filter_map-append f (reverse lines) (v ∷ [])

-- where no line settled the number of cores, none asked for one
none_asked : (lines : List Event) → list_any settles_cores lines ≡ false → filter_map number_asked lines ≡ []
none_asked [] e = refl
none_asked (add_interface i plan ∷ lines) e = none_asked lines e
none_asked (v ∷ lines) e = absurd (cc)

refused_late : (n : ℕ) (d : Draft) → d.settled ≡ true → takes (set_cores n) d ≡ stops 93
refused_late n d e =
    ap (λ b. if b then stops 93 else if nat_lt n 1 || nat_lt most_cores n then stops 94 else goes_on (record d { settled = true; cores = n })) e

cores_more : (v : Event) (lines : List Event) (c d : Draft) → IsOfLines lines c → Adds v c d
    → ((filter_map number_asked (v ∷ lines) ≡ []) × (d.cores ≡ 1)) ⊎ (filter_map number_asked (v ∷ lines) ≡ d.cores ∷ [])
cores_more v lines c d h a = by a.cores h.cores
  where
    by : ((number_asked v ≡ None) × (d.cores ≡ c.cores)) ⊎ ((number_asked v ≡ Some d.cores) × (c.settled ≡ false))
        → ((filter_map number_asked lines ≡ []) × (c.cores ≡ 1)) ⊎ (filter_map number_asked lines ≡ c.cores ∷ [])
        → ((filter_map number_asked (v ∷ lines) ≡ []) × (d.cores ≡ 1)) ⊎ (filter_map number_asked (v ∷ lines) ≡ d.cores ∷ [])
    by (inl (none, same)) (inl (empty, one)) = inl (ap (λ o. cons_option o (filter_map number_asked lines)) none ∙ empty, same ∙ one)
    by (inl (none, same)) (inr it) = inr (ap (λ o. cons_option o (filter_map number_asked lines)) none ∙ it ∙ ap (λ n. n ∷ []) (sym same))
    by (inr (some, fresh)) before =
        inr (ap (λ o. cons_option o (filter_map number_asked lines)) some ∙ ap (λ ns. d.cores ∷ ns) (none_asked lines (sym h.settled ∙ fresh)))

pub of_lines : DraftsAreOfTheirLines
of_lines [] d is = subst (IsOfLines []) (sym is) (record {
  setup = refl;
  jobs = refl;
  bindings = refl;
  cores = inl (refl, refl);
  settled = refl;
  late = λ n e. absurd (cc);
})
of_lines (v ∷ lines) d (c, come, e) =
    let h = of_lines lines c come in
    let a = line_adds v c d e in
    record {
      setup = a.setup ∙ ap (λ vs. vs ++ filter sets_up (v ∷ [])) h.setup ∙ sym (filtered v lines sets_up);
      jobs = a.jobs ∙ ap (λ js. js ++ filter_map job_asked (v ∷ [])) h.jobs ∙ sym (asked v lines job_asked);
      bindings = a.bindings ∙ ap (λ bs. bs ++ filter_map opening_asked (v ∷ [])) h.bindings ∙ sym (asked v lines opening_asked);
      cores = cores_more v lines c d h a;
      settled = a.settled ∙ ap (λ b. settles_cores v || b) h.settled;
      late = λ n. refused_late n d;
    }
