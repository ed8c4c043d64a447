-- How generators and elements are named in texts.
use Rattle.std.specs.Prelude.{ℕ}
use Rattle.poly_core.specs.declared.place_names.Names.{Names}
use Rattle.poly_core.specs.declared.place_names.Names.TheVariants.{Numbered, Paired}

-- the generators are g1, g2, .. in a polynomial of theirs
abbrev pub generator_names : Names
generator_names = Numbered 103 0  -- 103 is `g`

-- the elements are s1, s2, .. in words, behind so many variables
abbrev pub element_names : ℕ → Names
element_names places = Numbered 115 places  -- 115 is `s`

-- in a witness the generators, so many, are g1, g2, .., and the elements behind them s1, s2, ..
abbrev pub witness_names : ℕ → Names
witness_names count = Paired 103 count 115
