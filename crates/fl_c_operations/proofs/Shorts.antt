-- Calls of messages of few numbers, by their codecs.
use Rattle.std.proofs.Common.{◌≡◌, ℕ, ◌<◌, ◌^◌, true, List, [], ◌∷◌, length, refl, sym, subst, ◌∙◌, arith}
use Rattle.std.specs.Cmp.{first_so}
use Rattle.std.proofs.lemmas.Bool.{leb-true}
use Rattle.fl_base.specs.declared.fragment.Frag.{Frag}
use Rattle.fl_base.specs.Control.{control_word, body, message_of, bare}
use Rattle.fl_interface.specs.Limits.{is_within_limits}
use Rattle.fl_value_data.specs.Value.{TheCall}
use Rattle.fl_value_data.specs.Fits.{fits_of}
use Rattle.fl_value_data.specs.Tape.{tape_of}
use Rattle.fl_compile.specs.Programs.{TheProgram}
use Rattle.fl_codec.specs.Codecs.{IsFragOfTape as IsCodecsFrag}
use Rattle.fl_codec.proofs.Calls.{few_of, frag_is}
use Rattle.fl_endpoint.specs.Stored.{IsOwn, AreOwn}
use Rattle.fl_c_operations.specs.Shorts.{IsOfFew, IsOnlyFrag, IsNoShorts}
use Rattle.fl_c_operations.proofs.Messages.{known}
use Rattle.fl_c_operations.proofs.Sent.{own_frags}

-- a message's number has 16 bits
pub msg_small : (x : TheProgram) (c : TheCall) → is_within_limits x.interface ≡ true → fits_of x.interface c ≡ true → c.msg < 2 ^ 16
msg_small x c within fits =
    let few = leb-true (length x.interface.messages) 256 (first_so _ _ within) in
    omega (arith, few, known x.interface.messages c.msg c.args fits)

-- no link changes it, or takes it for an acknowledgement
pub own_by : (x : TheProgram) (circuit msg : ℕ) (tape : List ℕ) (f : Frag) → is_within_limits x.interface ≡ true → circuit < 2 ^ 16 → IsCodecsFrag x.plan x.interface circuit msg tape f → IsOwn f
own_by x circuit msg tape f within small h =
    let owns = own_frags circuit x.plan x.interface h.call (msg_small x h.call within h.has.fits) small in
    let one : AreOwn (f ∷ []) = subst AreOwn h.frags owns in
    one.0

-- a call's only fragment, as its codec has it
codecs_frag : (x : TheProgram) (circuit : ℕ) (c : TheCall) (f : Frag) → fits_of x.interface c ≡ true → IsOnlyFrag x circuit c f → IsCodecsFrag x.plan x.interface circuit c.msg (tape_of x.plan x.interface c) f
codecs_frag x circuit c f fits only = record { call = c; has = record { message = refl; fits = fits; whole = refl }; frags = only }

-- a control word tells its message
message_read : (msg word : ℕ) → msg < 2 ^ 16 → body word ≡ control_word true msg 0 → message_of word ≡ msg
message_read msg word small e = omega (arith, small, e)

-- a call's only fragment tells its message
pub message_told : (x : TheProgram) (c : TheCall) (f : Frag) → is_within_limits x.interface ≡ true → fits_of x.interface c ≡ true → IsOfFew x c → IsOnlyFrag x 0 c (bare f) → message_of f.control ≡ c.msg
message_told x c f within fits few only =
    let filled = frag_is x.plan x.interface 0 c.msg (few_of x.interface c.msg few) (tape_of x.plan x.interface c) (bare f) (codecs_frag x 0 c (bare f) fits only) in
    message_read c.msg f.control (msg_small x c within fits) filled.control_is

-- a fragment of no tape of its message is that of no such call
pub no_frag : (x : TheProgram) (f : Frag) (msg : ℕ) → is_within_limits x.interface ≡ true → msg ≡ message_of f.control → ((tape : List ℕ) → IsCodecsFrag x.plan x.interface 0 msg tape (bare f) → ⊥)
    → IsNoShorts x (bare f)
no_frag x f msg within e none c fits few only =
    let same : c.msg ≡ msg = sym (e ∙ message_told x c f within fits few only) in
    let tape = tape_of x.plan x.interface c in
    none tape (subst (λ (n : ℕ). IsCodecsFrag x.plan x.interface 0 n tape (bare f)) same (codecs_frag x 0 c (bare f) fits only))
