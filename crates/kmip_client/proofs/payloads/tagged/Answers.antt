use Rattle.std.proofs.Common.{◌≡◌, true, rules}
use Rattle.kmip_attribute_set.specs.contracts.tags.AttributesTagged.TheImpl.{IsTagged-value}
use Rattle.kmip_client.specs.Payloads.{is_by_tags}
use Rattle.kmip_client.proofs.Tagging.{tagged_by}
use Rattle.kmip_client.proofs.payloads.tagged.Goals as goal

pub returns-in-Ok : goal.returns-in-Ok
returns-in-Ok g c =
    let e : is_by_tags c.args.version ≡ true = search rules in
    tagged_by (IsTagged-value g.row.A g.A.Allocator g.A.Allocator-dict g.A.Clone g.A.Clone-dict).it c.args.version c.args.given.now c.in-Ok.items e
    c.in-Ok.ensures

pub returns-in-Err : goal.returns-in-Err
returns-in-Err g c = let e : is_by_tags c.args.version ≡ true = search rules in (e, c.in-Err.ensures)
