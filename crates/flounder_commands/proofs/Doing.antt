-- What commands did, from what each of their calls did.
use Rattle.std.proofs.Common.{◌≡◌, ℕ, Bool, List, [], ◌∷◌, ◌++◌, Option, None, Some, refl, sym, ap, ◌∙◌, subst, inl, inr, append_assoc, append-nil, take, drop}
use Rattle.std.specs.Prelude.{IfSome, IfErr, OnOk, OnErr, Result, Ok, Err}
use Rattle.std.specs.Io.KnownBytes.{Appends, Keeps, append_known}
use Rattle.std.specs.declared.io.ErrorKind.{ErrorKind}
use Rattle.std.proofs.lemmas.List.{take-append-drop}
use Rattle.clap.specs.declared.error.kind.ErrorKind.TheVariants.{DisplayHelp}
use Rattle.fl_interface.specs.Interface.{TheInterface}
use Rattle.fl_value_data.specs.declared.value.PlanNo.TheVariants.{Two}
use Rattle.fl_script_exec.specs.declared.running.ExecFault.{ExecFault}
use Rattle.fl_script_exec.specs.Transcript.{Transcript}
use Rattle.fl_script_exec.specs.CutShort.{LeavesWritten}
use Rattle.fl_script_exec.specs.Reading as script
use Rattle.fl_script_exec.specs.Written as written
use Rattle.fl_model.specs.State.{State}
use Rattle.flounder_show.specs.declared.fault.ShowFault.{ShowFault}
use Rattle.flounder_show.specs.Content.{StandsFor, IsImageOf, IsRefusalOf, Shows, IsRefusedAs, status_of}
use Rattle.flounder_commands.specs.declared.fault.Fault.{Fault}
use Rattle.flounder_commands.specs.Status as program
use Rattle.flounder_commands.specs.FileEffects.{FileEffect, was_read, was_not_read, was_written, was_not_written, Adds, Does}
use Rattle.flounder_commands.specs.Streams.{Output, Streams, Puts, PutsPrefix, Prints, IsUntouched}
use Rattle.flounder_commands.specs.Parts.{EndsSo, IsCut, IsUnmade, TellsTable}
use Rattle.flounder_commands.specs.Commands.{failed_status, Compiles, IsShown, Views, Execs, EndsRun, Helps}
use Rattle.flounder_commands.proofs.FileEffects.{does_none, does_one, does_more}

-- ---- compile

pub not_read : (old new : Option (List FileEffect)) (file out : List ℕ) (kind : ErrorKind) (status failed : ℕ) → Adds old new (was_not_read file kind) → status ≡ failed → failed ≡ failed_status kind → Does old new (Compiles file out status)
not_read old new file out kind status failed a e h =
    does_one old new (was_not_read file kind) (Compiles file out status) a (inr (inl record { kind = kind; done = refl; ends = e ∙ h }))

-- what came of the text that was read
pub compile_done : (old middle new : Option (List FileEffect)) (file out bytes text : List ℕ) (status : ℕ) → Adds old middle (was_read file bytes) → text ≡ bytes
    → Does middle new (λ effects. Compiles file out status (was_read file text ∷ effects)) → Does old new (Compiles file out status)
compile_done old middle new file out bytes text status a e h =
    does_more old middle new (was_read file bytes) (Compiles file out status) a
    (subst (λ (t : List ℕ). Does middle new (λ effects. Compiles file out status (was_read file t ∷ effects))) e h)

pub not_compiled : (effects : Option (List FileEffect)) (file out bytes : List ℕ) (fault : ShowFault) (status : ℕ) → IsRefusalOf bytes fault → status ≡ status_of fault
    → Does effects effects (λ ds. Compiles file out status (was_read file bytes ∷ ds))
not_compiled effects file out bytes fault status h e =
    does_none effects (λ ds. Compiles file out status (was_read file bytes ∷ ds))
    (inr (inr (inl record { bytes = bytes; fault = fault; is_fault = h; done = refl; ends = e })))

compiled : (old new : Option (List FileEffect)) (file out bytes image : List ℕ) → Adds old new (was_written out image)
    → (i : TheInterface) × StandsFor bytes i × IsImageOf image Two i → Does old new (λ ds. Compiles file out 0 (was_read file bytes ∷ ds))
compiled old new file out bytes image a (i, s, h) =
    does_one old new (was_written out image) (λ ds. Compiles file out 0 (was_read file bytes ∷ ds)) a
    (
    inl record {
      bytes = bytes;
      interface = i;
      stands = s;
      image = image;
      is_image = h;
      done = refl;
      ends = refl;
    }
    )

not_written : (old new : Option (List FileEffect)) (file out bytes image : List ℕ) (status : ℕ) → IsUnmade out old new status
    → (i : TheInterface) × StandsFor bytes i × IsImageOf image Two i → Does old new (λ ds. Compiles file out status (was_read file bytes ∷ ds))
not_written old new file out bytes image status (kind, a, e) (i, s, h) =
    does_one old new (was_not_written out kind) (λ ds. Compiles file out status (was_read file bytes ∷ ds)) a
    (
    inr (inr (inr record {
      bytes = bytes;
      interface = i;
      stands = s;
      kind = kind;
      done = refl;
      ends = e;
    }))
    )

pub compiled_so : {A : Type 0} (r : Result A Fault) (old new : Option (List FileEffect)) (file out bytes image made : List ℕ) → made ≡ image
    → (i : TheInterface) × StandsFor bytes i × IsImageOf image Two i → OnOk r (Adds old new (was_written out made)) → IfErr r (λ f. IsUnmade out old new (program.status_of f))
    → EndsSo r (λ status. Does old new (λ ds. Compiles file out status (was_read file bytes ∷ ds)))
compiled_so (Ok x) old new file out bytes image made e h done fault =
    compiled old new file out bytes image (subst (λ (t : List ℕ). Adds old new (was_written out t)) e done) h
compiled_so (Err f) old new file out bytes image made e h done fault = not_written old new file out bytes image (program.status_of f) fault h

-- ---- show

pub not_viewed : (old new : Option (List FileEffect)) (file : List ℕ) (names : Bool) (o : Output) (kind : ErrorKind) (status failed : ℕ) → Adds old new (was_not_read file kind) → IsUntouched o → status ≡ failed → failed ≡ failed_status kind
    → Does old new (Views file names o status)
not_viewed old new file names o kind status failed a same e h =
    does_one old new (was_not_read file kind) (Views file names o status) a (inr (inl (same, record { kind = kind; done = refl; ends = e ∙ h })))

-- what came of the content that was read
pub show_done : (old new : Option (List FileEffect)) (file bytes content : List ℕ) (names : Bool) (o : Output) (status : ℕ) → Adds old new (was_read file bytes) → content ≡ bytes → Views file names o status (was_read file content ∷ [])
    → Does old new (Views file names o status)
show_done old new file bytes content names o status a e h =
    does_one old new (was_read file bytes) (Views file names o status) a (subst (λ (t : List ℕ). Views file names o status (was_read file t ∷ [])) e h)

pub not_shown : (file bytes : List ℕ) (names : Bool) (o : Output) (fault : ShowFault) (status : ℕ) → IsRefusedAs bytes fault → IsUntouched o → status ≡ status_of fault → Views file names o status (was_read file bytes ∷ [])
not_shown file bytes names o fault status h same e = inr (inr (inl record { bytes = bytes; fault = fault; is_fault = h; printed = same; done = refl; ends = e }))

viewed : (file bytes table : List ℕ) (names : Bool) (o : Output) (status : ℕ) → Shows bytes table → TellsTable names table o status → Views file names o status (was_read file bytes ∷ [])
viewed file bytes table names o status h (inl (text, is, inl p)) =
    inl record { bytes = bytes; table = table; text = text; shows = h; is_shown = is; printed = p.1; done = refl; ends = p.0 }
viewed file bytes table names o status h (inl (text, is, inr p)) =
    inr (inr (inr (inl record { bytes = bytes; table = table; text = text; shows = h; is_shown = is; put = p.1; done = refl; ends = p.0 })))
viewed file bytes table names o status h (inr p) =
    inr (inr (inr (inr record { bytes = bytes; table = table; shows = h; asked = p.0; printed = p.1; done = refl; ends = p.2 })))

pub shown_so : {A : Type 0} (r : Result A Fault) (file bytes table put : List ℕ) (names : Bool) (o : Output) → put ≡ table → Shows bytes table → EndsSo r (TellsTable names put o)
    → EndsSo r (λ status. Views file names o status (was_read file bytes ∷ []))
shown_so (Ok x) file bytes table put names o e h told = viewed file bytes table names o 0 h (subst (λ (t : List ℕ). TellsTable names t o 0) e told)
shown_so (Err f) file bytes table put names o e h told =
    viewed file bytes table names o (program.status_of f) h (subst (λ (t : List ℕ). TellsTable names t o (program.status_of f)) e told)

-- a text that is shown of a table was printed, or a prefix of it was put
pub told_text : {A : Type 0} (r : Result A Fault) (names : Bool) (table text put : List ℕ) (o : Output) → IsShown names table text → put ≡ text → OnOk r (Prints o put) → IfErr r (λ f. IsCut o put (program.status_of f))
    → EndsSo r (TellsTable names table o)
told_text (Ok x) names table text put o is e done fault = inl (text, is, inl (refl, subst (λ (t : List ℕ). Prints o t) e done))
told_text (Err f) names table text put o is e done fault = inl (text, is, inr (subst (λ (t : List ℕ). IsCut o t (program.status_of f)) e fault))

-- ---- standard output

-- what was put is still put after a flush
puts_kept : (u v w : Option (List ℕ)) (text : List ℕ) → Appends u v text → Keeps v w → Appends u w text
puts_kept None v w text a k = tt
puts_kept (Some xs) None w text a k = absurd a
puts_kept (Some xs) (Some ys) None text a k = absurd k
puts_kept (Some xs) (Some ys) (Some zs) text a k = k ∙ a

-- with an empty buffer all that was put reached the writer
prints_kept : (u v reached : Option (List ℕ)) (buffer text : List ℕ) → Appends u v text → Keeps v (append_known reached buffer) → buffer ≡ [] → Appends u reached text
prints_kept u v None buffer text a k e = puts_kept u v None text a k
prints_kept u v (Some zs) buffer text a k e =
    puts_kept u v (Some zs) text a (subst (λ (b : List ℕ). Keeps v (Some b)) (ap (λ (b : List ℕ). zs ++ b) e ∙ append-nil zs) k)

prints : (o : Output) (v : Option (List ℕ)) (buffer text : List ℕ) → Appends o.before v text → Keeps v o.put → o.put ≡ append_known o.reached buffer → buffer ≡ [] → Prints o text
prints o v buffer text a k same e = (
  puts_kept o.before v o.put text a k,
  prints_kept o.before v o.reached buffer text a (subst (λ (p : Option (List ℕ)). Keeps v p) same k) e,
)

pub flushed : {T E : Type 0} (r : Result T E) (o : Output) (v : Option (List ℕ)) (buffer text : List ℕ) → Appends o.before v text → Keeps v o.put → o.put ≡ append_known o.reached buffer
    → OnOk r (buffer ≡ []) → OnOk r (Prints o text)
flushed (Ok x) o v buffer text a k same e = prints o v buffer text a k same e
flushed (Err x) o v buffer text a k same e = tt

-- where the buffer couldn't be written out, all was put
pub put_unflushed : (o : Output) (v : Option (List ℕ)) (text : List ℕ) → Appends o.before v text → Keeps v o.put → PutsPrefix o text
put_unflushed o v text a k = (text, ([], sym (append-nil text)), puts_kept o.before v o.put text a k)

pub whatever : {T E : Type 0} (r : Result T E) (P : Type 0) → P → OnErr r P
whatever (Ok x) P p = tt
whatever (Err e) P p = p

-- ---- by as many writes as it takes

-- a part of a text was put
pub record PutSo (u v : Option (List ℕ)) (text rest : List ℕ) : Type 0 where
  pub prefix : List ℕ
  pub parts : text ≡ prefix ++ rest
  pub put : Appends u v prefix

appends_then : (u v w : Option (List ℕ)) (a b : List ℕ) → Appends u v a → Appends v w b → Appends u w (a ++ b)
appends_then None v w a b x y = tt
appends_then (Some xs) None w a b x y = absurd x
appends_then (Some xs) (Some ys) None a b x y = y
appends_then (Some xs) (Some ys) (Some zs) a b x y = y ∙ (ap (λ (t : List ℕ). t ++ b) x ∙ append_assoc xs a b)

appends_nothing : (u : Option (List ℕ)) → Appends u u []
appends_nothing None = tt
appends_nothing (Some xs) = sym (append-nil xs)

pub nothing_put : (u : Option (List ℕ)) (text : List ℕ) → PutSo u u text text
nothing_put u text = record { prefix = []; parts = refl; put = appends_nothing u }

pub more_put : (u v w : Option (List ℕ)) (text rest left : List ℕ) (n : ℕ) → left ≡ drop n rest → PutSo u v text rest → Appends v w (take n rest) → PutSo u w text left
more_put u v w text rest left n e p a = record {
  prefix = p.prefix ++ take n rest;
  parts = p.parts ∙ (ap (λ (t : List ℕ). p.prefix ++ t) (sym (take-append-drop n rest)) ∙ (sym (append_assoc p.prefix (take n rest) (drop n rest))
      ∙ ap (λ (t : List ℕ). (p.prefix ++ take n rest) ++ t) (sym e)));
  put = appends_then u v w p.prefix (take n rest) p.put a;
}

pub all_put : (u v : Option (List ℕ)) (text rest : List ℕ) → rest ≡ [] → PutSo u v text rest → Appends u v text
all_put u v text rest e p = subst (λ (t : List ℕ). Appends u v t) (sym (p.parts ∙ ap (λ (t : List ℕ). p.prefix ++ t) e ∙ append-nil p.prefix)) p.put

-- ---- exec

pub ran : {M : Type 0} (shows : M → State → Type 0) (strict : Bool) (io : Streams) (v : Option (List ℕ)) (buffer : List ℕ) (status : ℕ)
    → IfSome io.input (written.Ran shows)
    → IfSome io.input (λ bytes. (out : List ℕ) × Transcript bytes out × Appends io.output.before v out)
    → Keeps v io.output.put → io.output.put ≡ append_known io.output.reached buffer → buffer ≡ [] → EndsRun strict io.output.reached status → Execs shows strict io status
ran shows strict io v buffer status w t k same e z = inl record {
  machine = w;
  transcript = at_input io.input t;
  ends = z;
}
  where
    at_input : (i : Option (List ℕ)) → IfSome i (λ bytes. (out : List ℕ) × Transcript bytes out × Appends io.output.before v out)
        → IfSome i (λ bytes. (out : List ℕ) × Transcript bytes out × Prints io.output out)
    at_input None t = tt
    at_input (Some bytes) (out, is, a) = (out, is, prints io.output v buffer out a k same e)

pub not_flushed : {M : Type 0} (shows : M → State → Type 0) (strict : Bool) (io : Streams) (v : Option (List ℕ)) (status : ℕ)
    → IfSome io.input (λ bytes. (out : List ℕ) × Transcript bytes out × Appends io.output.before v out)
    → Keeps v io.output.put → status ≡ 4 → Execs shows strict io status
not_flushed shows strict io v status t k z = inr (inr record {
  transcript = at_input io.input t;
  ends = z;
})
  where
    at_input : (i : Option (List ℕ)) → IfSome i (λ bytes. (out : List ℕ) × Transcript bytes out × Appends io.output.before v out)
        → IfSome i (λ bytes. (out : List ℕ) × Transcript bytes out × Puts io.output out)
    at_input None t = tt
    at_input (Some bytes) (out, is, a) = (out, is, puts_kept io.output.before v io.output.put out a k)

pub cut_short : {M : Type 0} (shows : M → State → Type 0) (strict : Bool) (io : Streams) (v : Option (List ℕ)) (fault : ExecFault) (status : ℕ)
    → IfSome io.input (λ bytes. (out : List ℕ) × LeavesWritten fault bytes out × Appends io.output.before v out)
    → Keeps v io.output.put → status ≡ script.status_of fault → Execs shows strict io status
cut_short shows strict io v fault status t k z = inr (inl record {
  fault = fault;
  prefix = at_input io.input t;
  ends = z;
})
  where
    at_input : (i : Option (List ℕ)) → IfSome i (λ bytes. (out : List ℕ) × LeavesWritten fault bytes out × Appends io.output.before v out)
        → IfSome i (λ bytes. (out : List ℕ) × LeavesWritten fault bytes out × Puts io.output out)
    at_input None t = tt
    at_input (Some bytes) (out, is, a) = (out, is, puts_kept io.output.before v io.output.put out a k)

-- ---- help

-- help whose text was printed, or cut short
pub help_so : {A : Type 0} (r : Result A Fault) (o : Output) (text : List ℕ) → OnOk r (Prints o text) → IfErr r (λ f. IsCut o text (program.status_of f)) → EndsSo r (Helps DisplayHelp o)
help_so (Ok x) o text done fault = inl record { text = text; ends = inl (refl, done) }
help_so (Err f) o text done fault = inl record { text = text; ends = inr fault }
