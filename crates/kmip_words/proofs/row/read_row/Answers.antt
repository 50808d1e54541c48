use Rattle.std.proofs.Common.{◌∙◌, arith, Some, None, Option, ℕ, ap, sym}
use Rattle.std.proofs.lemmas.Str.Pattern.{split_once_first}
use Rattle.kmip_ttlv_types.specs.Names.{number}
use Rattle.kmip_words.specs.Rows.{entry_of}
use Rattle.kmip_words.proofs.Parted.{no_parts, two_parts, row_is, rest_is}
use Rattle.kmip_words.proofs.row.read_row.Goals as goal

pub returns-in_default : goal.returns-in_default
returns-in_default c =
    let line = c.args.line.now in
    sym (row_is line None (no_parts line (split_once_first 32 line None c.in_default.ensures.cases (omega arith))))

pub returns-in_default-split_once : goal.returns-in_default-split_once
returns-in_default-split_once c =
    let line = c.args.line.now in
    let list = c.in-Some.list.now in
    let rest = c.in-Some.rest.now in
    let h = split_once_first 32 line (Some (c.in-Some.list, c.in-Some.rest)) c.in-Some.ensures.cases (omega arith) in
    sym (row_is line (Some (list, rest)) (two_parts line list rest h.0 h.1 h.2)
    ∙ rest_is list rest None (no_parts rest (split_once_first 32 rest None c.in_default-split_once.ensures.cases (omega arith))))

pub returns-in_default-number : goal.returns-in_default-number
returns-in_default-number c =
    let line = c.args.line.now in
    let list = c.in-Some.list.now in
    let rest = c.in-Some.rest.now in
    let digits = c.in-Some-split_once.digits.now in
    let word = c.in-Some-split_once.word.now in
    let h = split_once_first 32 line (Some (c.in-Some.list, c.in-Some.rest)) c.in-Some.ensures.cases (omega arith) in
    let k = split_once_first 32 rest (Some (c.in-Some-split_once.digits, c.in-Some-split_once.word)) c.in-Some-split_once.ensures.cases (omega arith) in
    sym (row_is line (Some (list, rest)) (two_parts line list rest h.0 h.1 h.2)
    ∙ rest_is list rest (Some (digits, word)) (two_parts rest digits word k.0 k.1 k.2)
    ∙ ap (λ (o : Option ℕ). entry_of o (number digits) word) (sym c.number.ensures ∙ c.in_default-number.is))

pub returns-in-None : goal.returns-in-None
returns-in-None c =
    let line = c.args.line.now in
    let list = c.in-Some.list.now in
    let rest = c.in-Some.rest.now in
    let digits = c.in-Some-split_once.digits.now in
    let word = c.in-Some-split_once.word.now in
    let h = split_once_first 32 line (Some (c.in-Some.list, c.in-Some.rest)) c.in-Some.ensures.cases (omega arith) in
    let k = split_once_first 32 rest (Some (c.in-Some-split_once.digits, c.in-Some-split_once.word)) c.in-Some-split_once.ensures.cases (omega arith) in
    sym (row_is line (Some (list, rest)) (two_parts line list rest h.0 h.1 h.2)
    ∙ rest_is list rest (Some (digits, word)) (two_parts rest digits word k.0 k.1 k.2)
    ∙ ap (λ (o : Option ℕ). entry_of o (number digits) word) (sym c.number.ensures ∙ c.in-Some-number.is)
    ∙ ap (λ (o : Option ℕ). entry_of (Some c.in-Some-number.list) o word) (sym c.number-2.ensures ∙ c.in-None.is))

pub returns-in-Some-number-2 : goal.returns-in-Some-number-2
returns-in-Some-number-2 c =
    let line = c.args.line.now in
    let list = c.in-Some.list.now in
    let rest = c.in-Some.rest.now in
    let digits = c.in-Some-split_once.digits.now in
    let word = c.in-Some-split_once.word.now in
    let h = split_once_first 32 line (Some (c.in-Some.list, c.in-Some.rest)) c.in-Some.ensures.cases (omega arith) in
    let k = split_once_first 32 rest (Some (c.in-Some-split_once.digits, c.in-Some-split_once.word)) c.in-Some-split_once.ensures.cases (omega arith) in
    sym (row_is line (Some (list, rest)) (two_parts line list rest h.0 h.1 h.2)
    ∙ rest_is list rest (Some (digits, word)) (two_parts rest digits word k.0 k.1 k.2)
    ∙ ap (λ (o : Option ℕ). entry_of o (number digits) word) (sym c.number.ensures ∙ c.in-Some-number.is)
    ∙ ap (λ (o : Option ℕ). entry_of (Some c.in-Some-number.list) o word) (sym c.number-2.ensures ∙ c.in-Some-number-2.is))
