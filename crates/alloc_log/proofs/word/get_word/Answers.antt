-- `get_word`: the number that the part's eight bytes spell.
use Rattle.std.proofs.Common.{◌≡◌, ◌+◌, rules, ap, ◌∙◌, w64}
use Rattle.std.specs.Int.{from_be_bytes}
use Rattle.std.specs.List.{between}
use Rattle.alloc_log.proofs.Reading.{spelled}
use Rattle.alloc_log.proofs.word.get_word.Goals as goal

pub returns : goal.returns
returns c =
    let s = c.args in
    let e : c.unwrap.result ≡ between s.at (s.at + 8) s.log.now = search rules in
    c.from_be_bytes.ensures ∙ ap (from_be_bytes w64) e ∙ spelled s.log.now s.at c.requires
