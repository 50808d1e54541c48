-- Attributes by their names and by their tags.
use Rattle.std.specs.Prelude.{ℕ, List, [], ◌∷◌, Option, Some, None, if◌then◌else◌, ◌==◌, bytes_eq, codes}
use Rattle.kmip_ttlv_types.specs.{Digits.tag_text, Names.tag_of}
use Rattle.kmip_attribute_set.specs.declared.names.Row.{Row}

-- a row of the table: a tag, and the name of its attribute
abbrev pub row_of : Row → ℕ × List ℕ
row_of row = (row.0, row.1.now)

-- the tag in the first row that has this name
abbrev pub tag_among : List (ℕ × List ℕ) → List ℕ → Option ℕ
tag_among [] name = None
tag_among (row ∷ rows) name = if bytes_eq row.1 name then Some row.0 else tag_among rows name

-- the name in the first row that has this tag
abbrev pub name_among : List (ℕ × List ℕ) → ℕ → Option (List ℕ)
name_among [] tag = None
name_among (row ∷ rows) tag = if row.0 == tag then Some row.1 else name_among rows tag

-- each attribute's tag and its name (data/kmip_tags.tsv)
unfoldable pub attribute_names : List (ℕ × List ℕ)
attribute_names =
    (0x420001, codes "Activation Date") ∷
    (0x420004, codes "Application Specific Information") ∷
    (0x420005, codes "Archive Date") ∷
    (0x420014, codes "Certificate Identifier") ∷
    (0x420015, codes "Certificate Issuer") ∷
    (0x42001A, codes "Certificate Subject") ∷
    (0x42001D, codes "Certificate Type") ∷
    (0x420020, codes "Compromise Date") ∷
    (0x420021, codes "Compromise Occurrence Date") ∷
    (0x420022, codes "Contact Information") ∷
    (0x420028, codes "Cryptographic Algorithm") ∷
    (0x420029, codes "Cryptographic Domain Parameters") ∷
    (0x42002A, codes "Cryptographic Length") ∷
    (0x42002B, codes "Cryptographic Parameters") ∷
    (0x42002C, codes "Cryptographic Usage Mask") ∷
    (0x42002F, codes "Deactivation Date") ∷
    (0x420033, codes "Destroy Date") ∷
    (0x420034, codes "Digest") ∷
    (0x420039, codes "Initial Date") ∷
    (0x420042, codes "Key Format Type") ∷
    (0x420048, codes "Last Change Date") ∷
    (0x420049, codes "Lease Time") ∷
    (0x42004A, codes "Link") ∷
    (0x420053, codes "Name") ∷
    (0x420056, codes "Object Group") ∷
    (0x420057, codes "Object Type") ∷
    (0x420059, codes "Opaque Data Type") ∷
    (0x42005D, codes "Operation Policy Name") ∷
    (0x420067, codes "Process Start Date") ∷
    (0x420068, codes "Protect Stop Date") ∷
    (0x420081, codes "Revocation Reason") ∷
    (0x42008D, codes "State") ∷
    (0x420094, codes "Unique Identifier") ∷
    (0x420095, codes "Usage Limits") ∷
    (0x4200A8, codes "Fresh") ∷
    (0x4200AC, codes "Object Group Member") ∷
    (0x4200AD, codes "Certificate Length") ∷
    (0x4200AE, codes "Digital Signature Algorithm") ∷
    (0x4200B5, codes "X.509 Certificate Identifier") ∷
    (0x4200B6, codes "X.509 Certificate Issuer") ∷
    (0x4200B7, codes "X.509 Certificate Subject") ∷
    (0x4200B8, codes "Key Value Location") ∷
    (0x4200BB, codes "Key Value Present") ∷
    (0x4200BC, codes "Original Creation Date") ∷
    (0x4200BF, codes "Alternative Name") ∷
    (0x4200DE, codes "Random Number Generator") ∷
    (0x4200FB, codes "PKCS#12 Friendly Name") ∷
    (0x4200FC, codes "Description") ∷
    (0x4200FD, codes "Comment") ∷
    (0x420120, codes "Sensitive") ∷
    (0x420121, codes "Always Sensitive") ∷
    (0x420122, codes "Extractable") ∷
    (0x420123, codes "Never Extractable") ∷
    (0x420136, codes "Short Unique Identifier") ∷
    (0x42013A, codes "NIST Key Type") ∷
    (0x420145, codes "Protection Level") ∷
    (0x420146, codes "Protection Period") ∷
    (0x420147, codes "Quantum Safe") ∷
    (0x42015E, codes "Protection Storage Mask") ∷
    []

-- the first of two, if there is one
abbrev pub tag_or : Option ℕ → Option ℕ → Option ℕ
tag_or (Some tag) other = Some tag
tag_or None other = other

-- the tag of the attribute of this name: by the table, or that of which the name is the digits
unfoldable pub attribute_tag : List ℕ → Option ℕ
attribute_tag name = tag_or (tag_among attribute_names name) (tag_of name)

-- a name, if there is one, and otherwise a tag's digits
abbrev pub name_or : Option (List ℕ) → ℕ → List ℕ
name_or (Some name) tag = name
name_or None tag = tag_text tag

-- the name of the attribute of this tag: by the table, or the tag's digits
unfoldable pub attribute_name : ℕ → List ℕ
attribute_name tag = name_or (name_among attribute_names tag) tag
