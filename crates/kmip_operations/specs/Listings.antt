-- How attributes of an object are listed.
use Rattle.std.specs.Prelude.{◌≡◌, List, ◌++◌, map}
use Rattle.kmip_operations.specs.declared.attributes.Listing.{Listing}
use Rattle.kmip_operations.specs.Listing.{Saying, asked_of, saying_of}

-- of these attributes those that are asked for are listed behind the ones before
pub record Adds {A : Type 0} (all : List Saying) (old new : Listing A) : Type 0 where
  pub names : new.names ≡ old.names
  pub listed : map saying_of new.attributes.items ≡ map saying_of old.attributes.items ++ asked_of old.names.now all
