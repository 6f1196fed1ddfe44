-- Why nothing is told of a text.
use Rattle.std.proofs.Common.{◌≡◌, refl, sym, ap, ◌∙◌, subst, ℕ, not, true, false, List, [], ◌∷◌, ◌++◌, None, inl, inr, Result, Ok, Err, IfErr}
use Rattle.std.specs.List.{list_all, position}
use Rattle.std.proofs.lemmas.Bool.{and_parts}
use Rattle.std.specs.Result.{IsErrAnd}
use Rattle.fl_model.specs.Events.{Event, refused}
use Rattle.fl_model.specs.Runs.{answers_to, reached}
use Rattle.fl_model.specs.State.{State}
use Rattle.fl_model.specs.Step.{step}
use Rattle.fl_model.specs.Worlds.{start_with}
use Rattle.fl_world.specs.declared.booting.BootFault.TheVariants as boot
use Rattle.fl_world.specs.Booting.{TheConfig, has_bad_cores, IsFaultOf}
use Rattle.fl_cores_file.specs.Jobs.{Job}
use Rattle.fl_cores_file.specs.CoresFile.{CoresFile, Reads, is_file}
use Rattle.fl_cores_file.specs.Report.{TheReport}
use Rattle.fl_cores_file_laws.specs.JobsJoin.{NoFileIsRefused}
use Rattle.fl_cores_file_laws.specs.SetUps.{is_refusal, FilesPass}
use Rattle.fl_cores.specs.declared.fault.CoresFault.{CoresFault}
use Rattle.fl_cores.specs.declared.fault.CoresFault.TheVariants as fault
use Rattle.fl_cores.specs.Promised.{is_other, Reports, IsRefusedAt, IsFault, WantsNoThread, IsFaultOfText, config_in}

-- memory was refused while a text was read, or while its refused line was printed
pub memory_of_text : {T : Type 0} (text : List ℕ) (r : Result T CoresFault) → IsErrAnd r (λ e. e ≡ fault.Memory) → IfErr r (λ e. IsFaultOfText text e)
memory_of_text text (Ok v) h = absurd h
memory_of_text text (Err e) h = subst (IsFaultOfText text) (sym h) tt

pub memory_said : {T : Type 0} (r : Result T CoresFault) → IsErrAnd r (λ e. e ≡ fault.Memory) → IfErr r (λ e. e ≡ fault.Memory)
memory_said (Ok v) h = absurd h
memory_said (Err e) h = h

-- where no thread is started there is no other fault of a text
pub memory_alone : (text : List ℕ) (f : CoresFault) → IsFaultOfText text f → WantsNoThread f → f ≡ fault.Memory
memory_alone text (fault.Setup number place) is none = absurd is
memory_alone text (fault.Job number place) is none = absurd is
memory_alone text fault.Memory is none = refl
memory_alone text fault.Thread is none = absurd none

-- the machine refuses nothing of a file's set-up
no_refusal : (before behind : List Event) (v : Event) (s : State) (number : ℕ)
    → list_all (λ a. not (is_refusal a)) (answers_to s (before ++ v ∷ behind)) ≡ true → (step (reached s before) v).answer ≡ refused number → ⊥
no_refusal [] behind v s number passed is =
    let first : not (is_refusal (step s v).answer) ≡ true = (and_parts _ _ passed).0 in
    let no : not (is_refusal (step s v).answer) ≡ false = ap (λ a. not (is_refusal a)) is in absurd (cc)
no_refusal (w ∷ before) behind v s number passed is = no_refusal before behind v (step s w).state number (and_parts _ _ passed).1 is

-- the text is a file, and its run has a fault
of_file : FilesPass → NoFileIsRefused → (text : List ℕ) (file : CoresFile) (f : CoresFault) → Reads text (is_file file)
    → has_bad_cores (config_in file) ≡ false → position is_other file.setup ≡ None → IsFault (config_in file) file.jobs f → IsFaultOfText text f
of_file pass none text file (fault.Setup number place) reads counted making is = by (subst (IsRefusedAt (config_in file) number place) making is)
  where
    by : IsFaultOf (config_in file) (boot.Refused number place) → ⊥
    by (inl x) = absurd (let no : true ≡ false = sym x.0 ∙ counted in cc)
    by (inr x) =
        no_refusal x.1.before x.1.behind x.1.event (start_with file.cores) number
        (subst (λ vs. list_all (λ a. not (is_refusal a)) (answers_to (start_with file.cores) vs) ≡ true) x.1.events_are (pass text file reads)) x.1.answer
of_file pass none text file (fault.Job number place) reads counted making is =
    let made = is.made in
    none text file reads is.parts (record { world = made.world; shown = made.stands.1.shown; parts = made.parts }) number place (inr is.refused)
of_file pass none text file fault.Memory reads counted making is = tt
of_file pass none text file fault.Thread reads counted making is = record { file = file; reads = reads; lacks = is }

pub fault_of_file : {T : Type 0} → FilesPass → NoFileIsRefused → (text : List ℕ) (file : CoresFile) (r : Result T CoresFault) → Reads text (is_file file)
    → has_bad_cores (config_in file) ≡ false → position is_other file.setup ≡ None
    → IfErr r (λ e. IsFault (config_in file) file.jobs e) → IfErr r (λ e. IsFaultOfText text e)
fault_of_file pass none text file (Ok v) reads counted making h = tt
fault_of_file pass none text file (Err e) reads counted making h = of_file pass none text file e reads counted making h

-- memory was refused while a report was printed: so many cores there may be, since they ran
pub memory_behind : {T : Type 0} (c : TheConfig) (jobs : List Job) (limit : ℕ) (report : TheReport) (r : Result T CoresFault) → Reports c jobs limit report
    → IsErrAnd r (λ e. e ≡ fault.Memory) → IfErr r (λ e. IsFault c jobs e)
memory_behind c jobs limit report (Ok v) reports h = absurd h
memory_behind c jobs limit report (Err e) reports h = subst (λ (x : CoresFault). IsFault c jobs x) (sym h) reports.accepted.cores
