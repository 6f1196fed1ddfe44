-- Two ends of a binding, whose fragments came to each other: what is told of them is honest.
use Rattle.std.proofs.Common.{◌≡◌, ◌⊎◌, inl, inr, refl, sym, ap, ◌∙◌, ℕ, List, [], ◌++◌, length, Bool, true, false}
use Rattle.std.specs.List.{flat_map}
use Rattle.fl_base.specs.declared.identity.Side.{Side}
use Rattle.fl_base.specs.declared.identity.Side.TheVariants.{Client, Server}
use Rattle.fl_base.specs.declared.identity.EndId.{EndId}
use Rattle.fl_base.specs.Ends.{peer, other}
use Rattle.fl_base.specs.Prefix.{IsPrefix}
use Rattle.fl_value_data.specs.Value.{TheCall}
use Rattle.fl_compile.specs.Programs.{program_of}
use Rattle.fl_endpoint.specs.Accounts.{replies_by}
use Rattle.fl_core.specs.declared.core_job.CoreJob.{CoreJob}
use Rattle.fl_core.specs.Jobs.{calls_of_jobs}
use Rattle.fl_core_run.specs.Accepted.{count_waiting, accepted_of}
use Rattle.fl_core_run.proofs.Accepting.{first_accepted}
use Rattle.fl_core_run_laws.specs.Logs.{ProgressTellHandled}
use Rattle.fl_core_run_laws.specs.Made.{LogsMakeJobs, DoneAreFirst, done_of, made_at}
use Rattle.fl_core_run_laws.specs.Carried.{SentAreMade, SentAreReplies, sent_at, calls_handled, rules_at, traffic}
use Rattle.fl_core_run_laws.specs.Agree.{Arrived, EndsAgree}
use Rattle.fl_cores_file.specs.Jobs.{Job, own_calls, handed_in}
use Rattle.fl_cores_jobs.specs.EndWork.{is_ruled, reply_by}
use Rattle.fl_cores_laws.specs.Cores.{shared_ways}
use Rattle.fl_cores_laws.specs.Ends.{AreItsRules}
use Rattle.fl_cores_laws.specs.Told.{handled_by, sent_by, made_by}
use Rattle.fl_cores_laws.specs.Bindings.{Party, IsParty, PartiesAreHonest}
use Rattle.fl_cores_laws.proofs.Prefixes.{then_on, as_same, of_flat, of_none}
use Rattle.fl_cores_laws.proofs.Accepting.{agree_accepted}
use Rattle.fl_cores_laws.proofs.Progress.{handled_is, done_is, done_first}
use Rattle.fl_cores_laws.proofs.GivenWork.{calls_there, handed_ruled, handed_unruled, replies_are, made_unruled}

other_twice : (s : Side) → other (other s) ≡ s
other_twice Client = refl
other_twice Server = refl

pub there_and_back : (e : EndId) → peer (peer e) ≡ e
there_and_back e = ap (λ (s : Side). let x : EndId = record { binding = e.binding; side = s } in x) (other_twice e.side)

-- what the laws below say of ends' progress, and of what ends send
pub record Below : Type 0 where
  pub handled : ProgressTellHandled shared_ways
  pub made : LogsMakeJobs shared_ways
  pub first : DoneAreFirst shared_ways
  pub agree : EndsAgree
  pub sent_made : SentAreMade
  pub sent_replies : SentAreReplies

module _ (l : Below) (asked : List Job) (jobs : List CoreJob) where
  handled_here : (e : EndId) (p : Party) → IsParty asked jobs e p → handled_by p.core.finish e ≡ calls_handled e p.core.log
  handled_here e p k = handled_is l.handled l.made l.first jobs p.end_work e p.core k.progress k.went

  done_here : (e : EndId) (p : Party) → IsParty asked jobs e p → done_of jobs p.core.finish e ≡ made_at e p.core.log
  done_here e p k = done_is l.handled l.made l.first jobs p.end_work e p.core k.progress k.went

  first_asked : (e : EndId) (p : Party) → IsParty asked jobs e p → IsPrefix (done_of jobs p.core.finish e) (own_calls asked e)
  first_asked e p k =
      as_same (done_of jobs p.core.finish e) (done_of jobs p.core.finish e) (calls_of_jobs jobs p.end_work.jobs) (own_calls asked e)
      refl (calls_there asked jobs e p.end_work k.end_work) (done_first l.handled l.made l.first jobs p.end_work e p.core k.progress k.went)

  -- an end with rules makes no calls of its own
  none_made : (e : EndId) (p : Party) → IsParty asked jobs e p → is_ruled p.end_work ≡ true → made_at e p.core.log ≡ []
  none_made e p k ruled =
      sym (done_here e p k)
      ∙ of_none (done_of jobs p.core.finish e) (own_calls asked e) (first_asked e p k) (k.end_work.asked.alone (sym k.end_work.asked.ruled ∙ ruled))

  -- what was sent, by the log, and by its end's progress
  by_rules : (e : EndId) (p : Party) (k : IsParty asked jobs e p) → ((calls_handled e p.core.log ≡ []) ⊎ AreItsRules (rules_at e k.ran.had p.core.log) p.end_work)
      → replies_by (rules_at e k.ran.had p.core.log) (calls_handled e p.core.log) ≡ flat_map (reply_by p.end_work.rules) (calls_handled e p.core.log)
  by_rules e p k (inl none) =
      ap (replies_by (rules_at e k.ran.had p.core.log)) none ∙ sym (ap (flat_map (reply_by p.end_work.rules)) none)
  by_rules e p k (inr same) = replies_are (rules_at e k.ran.had p.core.log) p.end_work (calls_handled e p.core.log) same

  sent_is : (e : EndId) (p : Party) (k : IsParty asked jobs e p) (b : Bool) → is_ruled p.end_work ≡ b → sent_at e k.ran.had p.core.log ≡ sent_by jobs p.end_work p.core.finish e
  sent_is e p k false none =
      let u = k.ran.unruled none in
      l.sent_made e k.ran.had p.core.log u.0 u.1 ∙ sym (done_here e p k)
      ∙ sym (made_unruled p.end_work (done_of jobs p.core.finish e) (handled_by p.core.finish e) none)
  sent_is e p k true ruled =
      l.sent_replies e k.ran.had p.core.log (none_made e p k ruled) k.ran.first
      ∙ by_rules e p k k.ran.rules
      ∙ ap (flat_map (reply_by p.end_work.rules)) (sym (handled_here e p k))
      ∙ ap (λ (done : List TheCall). done ++ flat_map (reply_by p.end_work.rules) (handled_by p.core.finish e)) (sym (done_here e p k ∙ none_made e p k ruled))

  crossed : (e f : EndId) (p q : Party) → IsParty asked jobs e p → IsParty asked jobs f q
      → program_of q.end.program ≡ program_of p.end.program → Arrived q.took p.put
      → IsPrefix (handled_by q.core.finish f) (made_by jobs p.end_work p.core.finish e)
  crossed e f p q k m same arrived =
      as_same (calls_handled f q.core.log) (handled_by q.core.finish f)
      (accepted_of (length p.end.outgoing.waiting) (sent_at e k.ran.had p.core.log)) (made_by jobs p.end_work p.core.finish e)
      (sym (handled_here f q m))
      (ap (accepted_of (length p.end.outgoing.waiting)) (sent_is e p k (is_ruled p.end_work) refl)
      ∙ ap (λ (waiting : ℕ). accepted_of waiting (sent_by jobs p.end_work p.core.finish e)) (sym k.ran.waiting))
      (agree_accepted l.agree (traffic e k.ran.had p.core.log p.put p.took) (traffic f m.ran.had q.core.log q.put q.took) p.end q.end
      k.ran.since k.ran.sound m.ran.since same arrived)

  made_sent : (e : EndId) (p : Party) → IsPrefix (made_by jobs p.end_work p.core.finish e) (sent_by jobs p.end_work p.core.finish e)
  made_sent e p = first_accepted (count_waiting p.core.finish e) (sent_by jobs p.end_work p.core.finish e)

  -- what is sent is the first of what is handed in
  unruled_sent : (e : EndId) (p : Party) → IsParty asked jobs e p → is_ruled p.end_work ≡ false → IsPrefix (sent_by jobs p.end_work p.core.finish e) (own_calls asked e)
  unruled_sent e p k none =
      as_same (done_of jobs p.core.finish e) (sent_by jobs p.end_work p.core.finish e) (own_calls asked e) (own_calls asked e)
      (sym (made_unruled p.end_work (done_of jobs p.core.finish e) (handled_by p.core.finish e) none)) refl (first_asked e p k)

  sent_first : (e : EndId) (p q : Party) → IsParty asked jobs e p → IsParty asked jobs (peer e) q
      → program_of p.end.program ≡ program_of q.end.program → Arrived p.took q.put → (b : Bool) → is_ruled p.end_work ≡ b
      → IsPrefix (sent_by jobs p.end_work p.core.finish e) (handed_in asked e)
  sent_first e p q k m same arrived false none =
      as_same (sent_by jobs p.end_work p.core.finish e) (sent_by jobs p.end_work p.core.finish e) (own_calls asked e) (handed_in asked e)
      refl (handed_unruled asked jobs e p.end_work k.end_work none) (unruled_sent e p k none)
  sent_first e p q k m same arrived true ruled =
      let none : is_ruled q.end_work ≡ false = m.end_work.asked.ruled ∙ k.end_work.asked.one_side (sym k.end_work.asked.ruled ∙ ruled) in
      let ahead = then_on (handled_by p.core.finish e) (made_by jobs q.end_work q.core.finish (peer e)) (own_calls asked (peer e))
      (crossed (peer e) e q p m k same arrived)
      (then_on (made_by jobs q.end_work q.core.finish (peer e)) (sent_by jobs q.end_work q.core.finish (peer e)) (own_calls asked (peer e))
      (made_sent (peer e) q) (unruled_sent (peer e) q m none)) in
      as_same (flat_map (reply_by p.end_work.rules) (handled_by p.core.finish e)) (sent_by jobs p.end_work p.core.finish e)
      (flat_map (reply_by p.end_work.rules) (own_calls asked (peer e))) (handed_in asked e)
      (ap (λ (done : List TheCall). done ++ flat_map (reply_by p.end_work.rules) (handled_by p.core.finish e)) (sym (done_here e p k ∙ none_made e p k ruled)))
      (handed_ruled asked jobs e p.end_work k.end_work ruled)
      (of_flat (reply_by p.end_work.rules) (handled_by p.core.finish e) (own_calls asked (peer e)) ahead)

pub parties : Below → PartiesAreHonest
parties l asked jobs e p q k m same there again = record {
  handled = crossed l asked jobs e (peer e) p q k m same there;
  made = then_on (made_by jobs p.end_work p.core.finish e) (sent_by jobs p.end_work p.core.finish e) (handed_in asked e)
      (made_sent l asked jobs e p) (sent_first l asked jobs e p q k m (sym same) again (is_ruled p.end_work) refl);
}
