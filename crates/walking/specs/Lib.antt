-- The bracket word that a map's bytes hold: what its functions ask and answer.
pub mod Positions
