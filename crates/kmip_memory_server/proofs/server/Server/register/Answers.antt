use Rattle.std.proofs.Common.{Some, ap, sym, ◌∙◌}
use Rattle.kmip_operations.proofs.Knowing.{described_still}
use Rattle.kmip_memory_server.proofs.server.Server.register.Goals as goal

pub returns : goal.returns
returns g c =
    let came = c.in_ok-unique_identifier.ensures in
    let whole = ap Some (c.in_ok-material.ensures.items_if_clones_equal (λ x y e. e)) in
    record {
      given = c.in-Some.given;
      is_object = c.in-Some.ensures;
      about = _;
      described = described_still c.in_ok-object_type.ensures.grows c.in_ok-about.ensures;
      comes = record {
        object = came.object;
        about_is = came.about_is;
        material = came.material ∙ whole ∙ sym c.in_ok-object_type.ensures.bytes;
        id = came.id;
        comes = came.comes;
        name_is = came.name_is;
        last = came.last;
      };
    }
