use Rattle.std.proofs.Common.{◌≡◌, refl, rules, sym, subst, string_bytes}
use Rattle.kmip_operations.specs.Known.{HasName}
use Rattle.kmip_operations.proofs.Knowing.{has_first, has_last, stays_same}
use Rattle.kmip_operations.proofs.about.About.name.Goals as goal

pub returns-clause-grows : goal.returns-clause-grows
returns-clause-grows g c = record {
  algorithm = stays_same c.args.self.now.algorithm;
  length = stays_same c.args.self.now.length;
  usage_mask = stays_same c.args.self.now.usage_mask;
  names = λ text h. subst (HasName text) (sym c.in_ok-push.ensures.items) (has_first c.args.self.now.names.items _ text h);
  kind = refl;
}

pub returns-clause-named : goal.returns-clause-named
returns-clause-named g c =
    let same : string_bytes c.in_ok-value.value ≡ string_bytes c.args.name.now.value = search rules in
    subst (HasName (string_bytes c.args.name.now.value)) (sym c.in_ok-push.ensures.items)
    (has_last c.args.self.now.names.items _ (string_bytes c.args.name.now.value) same)
