use Rattle.c_lexer.proofs.Directives.{marker_once, no_marker}
use Rattle.c_lexer.proofs.marker.marker_of.Goals as goal

pub returns-in-Some : goal.returns-in-Some
returns-in-Some c =
    let found = c.in-Some.ensures in
    let same = marker_once c.args.text.bytes.now _ _ _ _ _ _ _ c.requires.marker.2 found.marker in
    rw same.0 found.marker

-- The token is a marker.
pub returns-in-None : goal.returns-in-None
returns-in-None c = let m = c.requires.marker in absurd (no_marker c.args.text.bytes.now _ c.in-None.ensures _ m.0 m.1 m.2)
