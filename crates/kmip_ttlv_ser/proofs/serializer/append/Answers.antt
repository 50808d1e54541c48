use Rattle.std.proofs.Common.{◌-◌, ◌≤◌, Some, vec_len, vec_capacity, refl, sym, ap, ◌∙◌, arith, subst}
use Rattle.kmip_ttlv_types.specs.Trees.{bytes_all}
use Rattle.kmip_ttlv_types.specs.Held.{Held}
use Rattle.kmip_ttlv_ser.proofs.{Leaves.place_len, Failing.appended}
use Rattle.kmip_ttlv_ser.proofs.Outputs.{given_nothing, never_fails, gave_all}
use Rattle.kmip_ttlv_ser.proofs.serializer.append.Goals as goal

pub overflow_sub-plan : goal.overflow_sub-plan
overflow_sub-plan g c =
    let m = c.in_ok-plan.ensures in
    omega (arith, place_len record { offset = c.len.result; opened = c.args.opened } c.in_ok-plan.plan.end m.trees m.reached)

pub unreachable-requires : goal.unreachable-requires
unreachable-requires g c =
    let m = c.in_ok-plan.ensures in
    let old = c.args.out.now.items in
    let free = c.in_ok-plan.plan.end.offset - c.len.result in
    let start : Held = record { pending = Some old; room = Some free } in
    let same = ap (λ k. k.0) c.new-2.ensures.sink ∙ c.replace.ensures.value in
    let room : free ≤ vec_capacity c.new-2.result.sink.0 - vec_len c.new-2.result.sink.0 = subst (λ u. free ≤ vec_capacity u - vec_len u) (sym same)
    (omega (arith, c.in_ok-reserve.ensures.ok, c.in_ok-reserve.ensures.len)) in
    let given = c.emit-whole.ensures m.trees start m.are (c.deref.ensures.value ∙ m.kept)
    (given_nothing free _ (ap (λ k. k.items) same ∙ c.in_ok-reserve.ensures.items) room c.new-2.ensures.failure) in
    let sink = c.emit-whole.result.sink.0 in
    never_fails old free (Some sink.items) (Some (vec_capacity sink - vec_len sink)) m (omega arith) c.in-Some.is given

pub returns : goal.returns
returns g c =
    let m = c.in_ok-plan.ensures in
    let old = c.args.out.now.items in
    let free = c.in_ok-plan.plan.end.offset - c.len.result in
    let start : Held = record { pending = Some old; room = Some free } in
    let same = ap (λ k. k.0) c.new-2.ensures.sink ∙ c.replace.ensures.value in
    let room : free ≤ vec_capacity c.new-2.result.sink.0 - vec_len c.new-2.result.sink.0 = subst (λ u. free ≤ vec_capacity u - vec_len u) (sym same)
    (omega (arith, c.in_ok-reserve.ensures.ok, c.in_ok-reserve.ensures.len)) in
    let given = c.emit-whole.ensures m.trees start m.are (c.deref.ensures.value ∙ m.kept)
    (given_nothing free _ (ap (λ k. k.items) same ∙ c.in_ok-reserve.ensures.items) room c.new-2.ensures.failure) in
    let sink = c.emit-whole.result.sink.0 in
    appended (omega (arith, c.len.ensures, c.args.out.now.ok.0)) m
    (gave_all start (bytes_all m.trees) old sink.items (Some (vec_capacity sink - vec_len sink)) c.in_default.is refl given)
