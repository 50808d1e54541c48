use Rattle.kmip_ttlv_util.proofs.lines.push_data_part.Goals as goal

pub returns-in-Structure : goal.returns-in-Structure
returns-in-Structure g c = record { ok = rw c.in-Structure.is c.push_str.ensures.ok; err = rw c.in-Structure.is c.push_str.ensures.err }

pub returns-in-Integer : goal.returns-in-Integer
returns-in-Integer g c = record { ok = rw c.in-Integer.is c.push_str-in-Integer.ensures.ok; err = rw c.in-Integer.is c.push_str-in-Integer.ensures.err }

pub returns-in-LongInteger : goal.returns-in-LongInteger
returns-in-LongInteger g c =
    record { ok = rw c.in-LongInteger.is c.push_str-in-LongInteger.ensures.ok; err = rw c.in-LongInteger.is c.push_str-in-LongInteger.ensures.err }

pub returns-in-BigInteger : goal.returns-in-BigInteger
returns-in-BigInteger g c =
    record { ok = rw c.in-BigInteger.is c.push_str-in-BigInteger.ensures.ok; err = rw c.in-BigInteger.is c.push_str-in-BigInteger.ensures.err }

pub returns-in-Enumeration : goal.returns-in-Enumeration
returns-in-Enumeration g c =
    record { ok = rw c.in-Enumeration.is c.push_str-in-Enumeration.ensures.ok; err = rw c.in-Enumeration.is c.push_str-in-Enumeration.ensures.err }

pub returns-in-Boolean : goal.returns-in-Boolean
returns-in-Boolean g c = record { ok = rw c.in-Boolean.is c.push_str-in-Boolean.ensures.ok; err = rw c.in-Boolean.is c.push_str-in-Boolean.ensures.err }

pub returns-in-TextString : goal.returns-in-TextString
returns-in-TextString g c =
    record { ok = rw c.in-TextString.is c.push_str-in-TextString.ensures.ok; err = rw c.in-TextString.is c.push_str-in-TextString.ensures.err }

pub returns-in-ByteString : goal.returns-in-ByteString
returns-in-ByteString g c =
    record { ok = rw c.in-ByteString.is c.push_str-in-ByteString.ensures.ok; err = rw c.in-ByteString.is c.push_str-in-ByteString.ensures.err }

pub returns-in-DateTime : goal.returns-in-DateTime
returns-in-DateTime g c = record { ok = rw c.in-DateTime.is c.push_str-in-DateTime.ensures.ok; err = rw c.in-DateTime.is c.push_str-in-DateTime.ensures.err }

pub returns-in-Interval : goal.returns-in-Interval
returns-in-Interval g c = record { ok = rw c.in-Interval.is c.push_str-in-Interval.ensures.ok; err = rw c.in-Interval.is c.push_str-in-Interval.ensures.err }
