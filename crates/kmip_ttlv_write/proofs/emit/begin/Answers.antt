use Rattle.std.proofs.Common.{rules, arith, ◌<◌, ◌^◌, length}
use Rattle.kmip_ttlv_write.proofs.Holding.{link_is, link_fits, holds_length, deep_spine}
use Rattle.kmip_ttlv_write.proofs.emit.begin.Goals as goal

pub overflow_sub-link : goal.overflow_sub-link
overflow_sub-link c = (link_is c.requires.opened c.requires.holds (omega arith)).1

pub overflow_cast-link : goal.overflow_cast-link
overflow_cast-link c =
    omega (arith, (link_is c.requires.opened c.requires.holds (omega arith)).0, link_fits c.requires.opened c.requires.small)

pub overflow_add-result : goal.overflow_add-result
overflow_add-result c =
    let long : length c.args.out.now < 2 ^ 64 = search rules in
    omega (arith, c.requires.holds.depth, deep_spine c.requires.opened, holds_length c.requires.holds, c.requires.room, long)
