use Rattle.std.proofs.Common.{ap, if◌then◌else◌, map, sym, true≢false, ◌∙◌}
use Rattle.kmip_memory_store.specs.Objects.{objects_of}
use Rattle.kmip_operations.specs.Finding.{found_from}
use Rattle.kmip_operations.specs.Listing.{saying_of}
use Rattle.kmip_operations.proofs.objects.Objects.sought.Goals as goal

pub returns-then-not-self : goal.returns-then-not-self
returns-then-not-self g c =
    let given = c.in_ok-given.given in record {
      given = given;
      are_given = c.in_ok-given.ensures;
      unmixed = λ t. absurd (true≢false (sym t ∙ c.if-not-self.true));
      ids_are = c.in_ok-found.ensures ∙ ap (λ l. found_from (map saying_of l) 0 (objects_of c.args.self.now.store)) (c.as_slice.ensures.value
          ∙ ap (λ b. if b then given.list.items else c.args.asked.now.attributes.items) (sym c.if-not-self.true));
    }

pub returns : goal.returns
returns g c =
    let given = c.in_ok-given.given in record {
      given = given;
      are_given = c.in_ok-given.ensures;
      unmixed = λ t. c.in_ok-check_unnamed.ensures;
      ids_are = c.in_ok-found-2.ensures ∙ ap (λ l. found_from (map saying_of l) 0 (objects_of c.args.self.now.store)) (c.as_slice-2.ensures.value
          ∙ ap (λ b. if b then given.list.items else c.args.asked.now.attributes.items) (sym c.if-not-self.false));
    }
