use Rattle.std.proofs.Common.{◌≡◌, true, false, refl, subst}
use Rattle.std.specs.Prelude.{Ok, Err}
use Rattle.fl_c_operations.specs.Runs.{TheReceiver, PutsWhole}
use Rattle.fl_c_operations.proofs.receiver.HeldReceiver.read.Goals as goal

-- a call that is read may not be read again
abbrev read_of : TheReceiver → TheReceiver
read_of h = record { run = h.run; unread = false }

pub returns-in-Ok : goal.returns-in-Ok
returns-in-Ok c =
    let view : TheReceiver = record { run = c.self.inside.run; unread = c.self.inside.unread } in
    let at = λ (h : TheReceiver). (h.unread ≡ true) × PutsWhole h.run c.args.room.now (Ok c.in-Ok.count) c.put_whole.new.room × (read_of view ≡ read_of h) in
    let same : view ≡ c.args.self.now = cc in
    record { reads = subst at same (c.if-not-self.false, c.in-Ok.ensures.puts, refl) }

pub returns-in-Err : goal.returns-in-Err
returns-in-Err c =
    let view : TheReceiver = record { run = c.self.inside.run; unread = c.self.inside.unread } in
    let at = λ (h : TheReceiver). (h.unread ≡ true) × PutsWhole h.run c.args.room.now (Err c.in-Err.fault) c.put_whole.new.room × (view ≡ h) in
    let same : view ≡ c.args.self.now = cc in
    record { reads = subst at same (c.if-not-self.false, c.in-Err.ensures.puts, refl) }
