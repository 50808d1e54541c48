use Rattle.std.proofs.Common.{◌≡◌, ◌∙◌, ◌++◌, sym, ap, append-nil, map-id}
use Rattle.std.specs.Prelude.{string_bytes, encode_utf8_all}
use Rattle.std.proofs.lemmas.Iterator.{YieldsList-from_chars}
use Rattle.std.proofs.lemmas.Iterator.Consumers.{YieldsList-end}
use Rattle.plain_xml.specs.Writings.{escaped}
use Rattle.plain_xml.proofs.Escaping.{one_more}
use Rattle.plain_xml.proofs.write.push_escaped.Goals as goal

pub loop-c-init : goal.loop-c-init
loop-c-init g c = sym (append-nil (string_bytes c.args.out.now))

pub loop-c-preserved : goal.loop-c-preserved
loop-c-preserved g c =
    one_more (string_bytes c.args.out.now) (string_bytes c.loop-c.out) (string_bytes c.push_character.new.out) c.loop-c.yielded c.in-Some.c
    c.loop-c.invariant c.in_ok-push_character.ensures

pub returns : goal.returns
returns g c =
    let end = YieldsList-end (YieldsList-from_chars c.args.value.now c.utf8.value cc)
    c.loop-c.yielded _ c.loop-c.yielded_by _ _ c.in-None.is c.next.ensures.steps in
    c.loop-c.invariant ∙ ap (λ ys. string_bytes c.args.out.now ++ encode_utf8_all (escaped ys)) (sym (map-id c.loop-c.yielded) ∙ end.0)
