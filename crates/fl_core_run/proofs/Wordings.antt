-- Words stay usable while refusals are told and learned.
use Rattle.std.proofs.Common.{◌≡◌, ◌≢◌, refl, sym, ap, ◌∙◌, subst, ℕ, ◌<◌, ◌+◌, ◌⊎◌, inl, inr, ◌==◌, if◌then◌else◌, List, length, slice_get, slice_set, slice_index_or, Option, Some, None, Bool, true, false, rules}
use Rattle.std.specs.List.{slice_index}
use Rattle.std.proofs.lemmas.Option.{slice_get-get_or}
use Rattle.fl_hop.proofs.Lists.{set_cases}
use Rattle.fl_base.specs.declared.identity.EndId.{EndId}
use Rattle.fl_core.specs.View.{place_of}
use Rattle.fl_cores_table.specs.declared.table.CoresView.{CoresView}
use Rattle.fl_cores_table.specs.Counter.{MayTell, times, times_told, with_stored, with_heard}
use Rattle.fl_cores_table.specs.Seats.{TheCoresSeat}
use Rattle.fl_core_run.specs.declared.opening_status.OpeningStatus.{OpeningStatus}
use Rattle.fl_core_run.specs.declared.opening_status.OpeningStatus.TheVariants.{Silent, Tells, Hears, Refused}
use Rattle.fl_core_run.specs.Run.{TheRun}
use Rattle.fl_core_run.specs.OpeningStatus.{refusal_at, MayUse, TellsIf, HearsOf, Exchanges, ExchangesAt, AreWords, stock}

-- ---- one word is replaced

module _ (words : List OpeningStatus) (k : ℕ) (word w : OpeningStatus) (v v2 : CoresView) (known : AreWords words v) (at : slice_get words k ≡ Some word)
    (usable : MayUse w v2) (tells : (job : ℕ) → w ≡ Tells job → word ≡ Tells job)
    (others : (m : ℕ) (x : OpeningStatus) → m ≢ k → slice_get words m ≡ Some x → MayUse x v → MayUse x v2) where
  may_from : (m : ℕ) (x : OpeningStatus) → ((m ≡ k) × (x ≡ w)) ⊎ ((m ≢ k) × (slice_get words m ≡ Some x)) → MayUse x v2
  may_from m x (inl h) = subst (λ (y : OpeningStatus). MayUse y v2) (sym h.1) usable
  may_from m x (inr h) = others m x h.0 h.1 (known.may m x h.1)

  -- a word that tells of a job did so before
  told_before : (m job : ℕ) → ((m ≡ k) × (Tells job ≡ w)) ⊎ ((m ≢ k) × (slice_get words m ≡ Some (Tells job))) → slice_get words m ≡ Some (Tells job)
  told_before m job (inl h) = subst (λ (i : ℕ). slice_get words i ≡ Some (Tells job)) (sym h.0) (at ∙ ap Some (tells job (sym h.1)))
  told_before m job (inr h) = h.1

  pub replaced : AreWords (slice_set words k w) v2
  replaced = record {
    may = λ m x there. may_from m x (set_cases words k w m x there);
    apart = λ m p job a b. known.apart m p job (told_before m job (set_cases words k w m (Tells job) a)) (told_before p job (set_cases words k w p (Tells job) b));
  }

-- ---- the seat goes on

-- a load leaves what may be told
heard_may : (x : OpeningStatus) (v : CoresView) (job number : ℕ) → MayUse x v → MayUse x (with_heard v job number)
heard_may Silent v job number h = h
heard_may (Tells i) v job number h = h
heard_may (Hears i) v job number h = h
heard_may (Refused i) v job number h = h

not_same : (i j : ℕ) → i ≢ j → (i == j) ≡ false
not_same i j ne = search (rules, ne)

-- a refusal of another job that is told leaves it
stored_tells : (v : CoresView) (i job number : ℕ) → job ≢ i → MayTell v i → MayTell (with_stored v job number) i
stored_tells v i job number ne h =
    subst (λ (b : Bool). (if b then times_told i v.stored + 1 else times_told i v.stored) < times (slice_index v.owners i) v.cores) (sym (not_same job i ne)) h

stored_may : (x : OpeningStatus) (v : CoresView) (job number : ℕ) → (x ≡ Tells job → ⊥) → MayUse x v → MayUse x (with_stored v job number)
stored_may Silent v job number ne h = h
stored_may (Tells i) v job number ne h = (h.0, stored_tells v i job number (λ same. ne (ap Tells (sym same))) h.1)
stored_may (Hears i) v job number ne h = h
stored_may (Refused i) v job number ne h = h

-- ---- an exchange

module _ {S : Type 0} (s : TheRun S) (name : EndId) (words : List OpeningStatus) (k : ℕ) (v v2 : TheCoresSeat) (w : OpeningStatus) (known : AreWords words v.knows) where
  -- nothing was told or learned
  stays : (word : OpeningStatus) → slice_get words k ≡ Some word → w ≡ word → v2 ≡ v → AreWords (slice_set words k w) v2.knows
  stays word at same seat =
      let usable : MayUse w v.knows = subst (λ (y : OpeningStatus). MayUse y v.knows) (sym same) (known.may k word at) in
      subst (λ (u : TheCoresSeat). AreWords (slice_set words k w) u.knows) (sym seat)
      (replaced words k word w v.knows v.knows known at usable (λ job is. sym same ∙ is) (λ m x ne there h. h))

  tells_by : (job number : ℕ) (b : Bool) → slice_get words k ≡ Some (Tells job)
      → TellsIf b job number v w v2
      → AreWords (slice_set words k w) v2.knows
  tells_by job number true at h = stays (Tells job) at h.0 h.1
  tells_by job number false at h =
      let usable : MayUse w (with_stored v.knows job number) = subst (λ (y : OpeningStatus). MayUse y (with_stored v.knows job number)) (sym h.0) tt in
      subst (λ (u : TheCoresSeat). AreWords (slice_set words k w) u.knows) (sym h.1)
      (replaced words k (Tells job) w v.knows (with_stored v.knows job number) known at usable
      (λ i is. absurd (let k : Refused number ≡ Tells i = sym h.0 ∙ is in cc))
      (λ m x ne there may. stored_may x v.knows job number (λ is. ne (known.apart m k job (there ∙ ap Some is) at)) may))

  heard_word : (job number : ℕ) (b : Bool) → job < length v.knows.owners → MayUse (if b then Hears job else Refused number) (with_heard v.knows job number)
  heard_word job number true h = h
  heard_word job number false h = tt

  no_tells : (job number i : ℕ) (b : Bool) → (if b then Hears job else Refused number) ≡ Tells i → ⊥
  no_tells job number i true h = absurd (cc)
  no_tells job number i false h = absurd (cc)

  hears_by : (job : ℕ) (o : Option ℕ) → slice_get words k ≡ Some (Hears job) → HearsOf job o v w v2 → AreWords (slice_set words k w) v2.knows
  hears_by job (Some e) at h = stays (Hears job) at h.0 h.1
  hears_by job None at h =
      let number : ℕ = h.0 in
      let usable : MayUse w (with_heard v.knows job number) =
      subst (λ (y : OpeningStatus). MayUse y (with_heard v.knows job number)) (sym h.3) (heard_word job number (number == 0) (known.may k (Hears job) at)) in
      subst (λ (u : TheCoresSeat). AreWords (slice_set words k w) u.knows) (sym h.1)
      (replaced words k (Hears job) w v.knows (with_heard v.knows job number) known at usable
      (λ i is. absurd (no_tells job number i (number == 0) (sym h.3 ∙ is)))
      (λ m x ne there may. heard_may x v.knows job number may))

  words_kept : (word : OpeningStatus) → slice_get words k ≡ Some word → Exchanges s name word v w v2 → AreWords (slice_set words k w) v2.knows
  words_kept Silent at h = stays Silent at h.0 h.1
  words_kept (Tells job) at h = tells_by job (refusal_at s name) (refusal_at s name == 0) at h
  words_kept (Hears job) at h = hears_by job (place_of s.core name) at h
  words_kept (Refused number) at h = stays (Refused number) at h.0 h.1

-- ---- at a place of the list

module _ {S : Type 0} (s : TheRun S) (ends : List EndId) (words : List OpeningStatus) (k : ℕ) (other : EndId) (d : OpeningStatus) (v v2 : TheCoresSeat) (after : OpeningStatus)
    (few : k < length ends) (below : k < length words) (exchanges : Exchanges s (slice_index_or ends k other) (slice_index_or words k d) v after v2) where
  pub exchanged : ExchangesAt s ends k (stock words v) (stock (slice_set words k after) v2)
  exchanged = record {
    name = slice_index_or ends k other;
    name_is = slice_get-get_or ends k other few;
    word = slice_index_or words k d;
    word_is = slice_get-get_or words k d below;
    after = after;
    exchanges = exchanges;
    rest = refl;
  }

  pub still_words : AreWords words v.knows → AreWords (slice_set words k after) v2.knows
  still_words known = words_kept s (slice_index_or ends k other) words k v v2 after known (slice_index_or words k d) (slice_get-get_or words k d below) exchanges
