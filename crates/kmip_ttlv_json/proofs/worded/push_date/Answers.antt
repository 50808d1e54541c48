use Rattle.std.proofs.lemmas.Str.{IsUtf8-from_ascii, is_utf8-from_IsUtf8}
use Rattle.kmip_ttlv_json.proofs.worded.push_date.Goals as goal

pub push_quoted-requires : goal.push_quoted-requires
push_quoted-requires g c =
    let text = c.in-Some.text in
    is_utf8-from_IsUtf8 text (IsUtf8-from_ascii text c.in-Some.ensures.ascii)
