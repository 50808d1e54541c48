-- Which tags the lines of a table name.
use Rattle.std.proofs.Common.{◌≡◌, ℕ, Bool, true, false, ◌||◌, List, [], ◌∷◌, Option, Some, None, cond, sym, refl, ◌∙◌, ap, subst}
use Rattle.std.specs.Prelude.{◌==◌, is_some, IfOk, Result, Ok, Err}
use Rattle.std.specs.List.{list_any}
use Rattle.std.specs.Str.{chars, trim_end}
use lib.Utf8.{encode}
use Rattle.kmip_ttlv_types.specs.Names.{number, tag_of}
use Rattle.kmip_ttlv_util.specs.TagNames.{no_names, NameMap, name_in}
use Rattle.kmip_ttlv_names.specs.declared.secrets.TheConstants.{STANDARD_SECRETS}
use Rattle.kmip_ttlv_names.specs.NameTables.{Said, says_nothing, says_name, says_no_tag, line_of, lines_of, with_name, names_after, names_of}
use Rattle.kmip_ttlv_names.specs.SecretTags.{NamesSecrets, is_secret, secret_digits, secret_tags}

-- tags, and one more that a line names
abbrev with_tag : Said → List ℕ → List ℕ
with_tag (says_name t name) ts = t ∷ ts
with_tag _ ts = ts

-- the tags that lines name
abbrev tags_of : List (List ℕ) → List ℕ
tags_of [] = []
tags_of (l ∷ ls) = with_tag (line_of l) (tags_of ls)

or_false : (b : Bool) → b ≡ (b || false)
or_false true = refl
or_false false = refl

-- a line more, that a tag's name may be in
chosen : (name : List ℕ) (o : Option (List ℕ)) (here later : Bool)
    → (is_some (cond here (Some name) o) || later) ≡ (is_some o || (here || later))
chosen name o false later = refl
chosen name None true later = refl
chosen name (Some x) true later = refl

one_more : (names : ℕ → Option (List ℕ)) (tag : ℕ) (said : Said) (ts : List ℕ)
    → (is_some (with_name names said tag) || list_any (λ t. t == tag) ts) ≡ (is_some (names tag) || list_any (λ t. t == tag) (with_tag said ts))
one_more names tag (says_name t name) ts = chosen name (names tag) (t == tag) (list_any (λ t. t == tag) ts)
one_more names tag says_nothing ts = refl
one_more names tag says_no_tag ts = refl

-- a tag has a name behind some lines exactly if it had one before, or one of the lines names it
named_after : (names : ℕ → Option (List ℕ)) (tag : ℕ) (ls : List (List ℕ))
    → is_some (names_after names ls tag) ≡ (is_some (names tag) || list_any (λ t. t == tag) (tags_of ls))
named_after names tag [] = or_false (is_some (names tag))
named_after names tag (l ∷ ls) = named_after (with_name names (line_of l)) tag ls ∙ one_more names tag (line_of l) (tags_of ls)

-- the tags of the standard's table, computed
tags_are : tags_of (lines_of STANDARD_SECRETS.now) ≡ secret_tags
unfolding line_of tag_of number secret_digits secret_tags trim_end chars encode
tags_are = refl

pub standard_secrets_named : NamesSecrets (names_of STANDARD_SECRETS.now)
unfolding names_of is_secret
standard_secrets_named tag = named_after no_names tag (lines_of STANDARD_SECRETS.now)
    ∙ ap (λ (ts : List ℕ). list_any (λ t. t == tag) ts) tags_are

-- so what is read of it names the secret tags alone
pub secrets_in : {E : Type 0} (read : Result NameMap E) → IfOk read (λ tags. name_in tags ≡ names_of STANDARD_SECRETS.now)
    → IfOk read (λ tags. NamesSecrets (name_in tags))
secrets_in (Ok tags) is = subst NamesSecrets (sym is) standard_secrets_named
secrets_in (Err e) is = tt
