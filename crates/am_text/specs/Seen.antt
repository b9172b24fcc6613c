-- What a token shows.
use Rattle.am_text.specs.Tokens.{Placed}
use Rattle.am_text.specs.declared.token.Token.{Token}

-- a token's place and bytes
abbrev pub seen : Token → Placed
seen t = record { place = t.at; word = t.text.now }
