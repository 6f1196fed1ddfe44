use Rattle.std.proofs.Common.{◌≡◌, ◌<◌, None, sym, subst, rules}
use Rattle.fl_core.specs.declared.wiring.WiredEnd.{WiredEnd}
use Rattle.fl_core.specs.View.{TheCore, place_of}
use Rattle.fl_core.proofs.Pairing.{has_new, none_left}
use Rattle.fl_core.proofs.one_core.Core.add_both.Goals as goal

few : (p q : WiredEnd) → p ≡ q → q.name.binding < 1024 → p.name.binding < 1024
few p q is h = subst (λ (x : WiredEnd). x.name.binding < 1024) (sym is) h

new : (k : TheCore) (p q : WiredEnd) → p ≡ q → place_of k q.name ≡ None → place_of k p.name ≡ None
new k p q is h = subst (λ (x : WiredEnd). place_of k x.name ≡ None) (sym is) h

pub take_back_end-requires : goal.take_back_end-requires
take_back_end-requires c =
    has_new c.args.self.now c.add_end.new.self c.args.both.client.dispatcher c.args.both.client.end c.client_wired_end-client_wired_end.result c.in-Ok.client c.in-Ok.ensures.adds
    c.add_end-2.new.self c.args.both.server.dispatcher c.args.both.server.end c.server_wired_end-server_wired_end.result c.in_default-add_end.field-0 c.in_default-add_end.ensures.adds
    (few _ _ c.client_wired_end-client_wired_end.ensures.wired_end c.requires.few) (new c.args.self.now _ _ c.client_wired_end-client_wired_end.ensures.wired_end c.requires.new_client)
    c.law_sound.ensures.sound c.law_sound.ensures.board

pub returns-in_default-add_end : goal.returns-in_default-add_end
returns-in_default-add_end c = record {
  joins = (
    search rules,
    none_left c.args.self.now c.add_end.new.self c.args.both.client.dispatcher c.args.both.client.end c.client_wired_end-client_wired_end.result c.in-Ok.client c.in-Ok.ensures.adds
        c.add_end-2.new.self c.args.both.server.dispatcher c.args.both.server.end c.server_wired_end-server_wired_end.result c.in_default-add_end.field-0 c.in_default-add_end.ensures.adds
        (few _ _ c.client_wired_end-client_wired_end.ensures.wired_end c.requires.few) (new c.args.self.now _ _ c.client_wired_end-client_wired_end.ensures.wired_end c.requires.new_client)
        c.take_back_end.new.self c.take_back_end.ensures.before,
  );
}
