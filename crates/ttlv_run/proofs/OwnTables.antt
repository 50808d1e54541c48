-- A bad line is one of a table that the request names.
use Rattle.std.specs.Borrow.{Bor}
use Rattle.std.proofs.Common.{◌≡◌, ◌∙◌, ℕ, List, Option, Some, None, ap, refl, sym}
use Rattle.kmip_ttlv_names.specs.NameTables.{bad_line}
use Rattle.kmip_ttlv_names.specs.OwnNames.{bad_own_line}
use Rattle.kmip_ttlv_names.specs.declared.standard.TheConstants.{STANDARD_TAGS}
use Rattle.kmip_ttlv_names.specs.declared.secrets.TheConstants.{STANDARD_SECRETS}
use Rattle.kmip_ttlv_names.proofs.GoodTables.{secrets_good, own_good, own_good_behind}
use Rattle.ttlv_run.specs.Files.{Opening}
use Rattle.ttlv_run.specs.Tools.{IsTable, AreRead, HasBadLine, of_tags, of_secrets}

module _ {T I : Type 0} (how : Opening T I) (old new : T) (path : Option (Bor (List ℕ))) (all : List ℕ) where
  -- that of tags has none: its file was read line by line
  tags_good : IsTable how STANDARD_TAGS.now old new path all → bad_own_line all ≡ None
  tags_good h = by_path path h
    where
      by_path : (p : Option (Bor (List ℕ))) → IsTable how STANDARD_TAGS.now old new p all → bad_own_line all ≡ None
      by_path None h = ap bad_own_line h.0 ∙ own_good
      by_path (Some p) h = let joined = h.3 in ap bad_own_line joined.is ∙ own_good_behind joined.table joined.good

  -- that of secrets has one only where a file is named
  secrets_named : (n : ℕ) → IsTable how STANDARD_SECRETS.now old new path all → bad_line all ≡ Some n → (p : Bor (List ℕ)) × (path ≡ Some p)
  secrets_named n h bad = by_path path h
    where
      by_path : (q : Option (Bor (List ℕ))) → IsTable how STANDARD_SECRETS.now old new q all → (p : Bor (List ℕ)) × (q ≡ Some p)
      by_path None h = let k : None ≡ Some n = sym (ap bad_line h.0 ∙ secrets_good) ∙ bad in absurd cc
      by_path (Some p) h = (p, refl)

pub own_secrets : {T I : Type 0} {how : Opening T I} {old new : T} {names secrets : Option (Bor (List ℕ))} {tags secret : List ℕ} {n : ℕ}
    → AreRead how names secrets old new tags secret → HasBadLine tags secret n
    → (p : Bor (List ℕ)) × (secrets ≡ Some p) × (bad_line secret ≡ Some n)
own_secrets {how = how} {old = old} {names = names} {tags = tags} {n = n} read (of_tags bad) =
    let k : None ≡ Some n = sym (tags_good how old read.between names tags read.tags_are) ∙ bad in absurd cc
own_secrets {how = how} {new = new} {secrets = secrets} {secret = secret} {n = n} read (of_secrets bad) =
    let p = secrets_named how read.between new secrets secret n read.secrets_are bad in (p.0, p.1, bad)
