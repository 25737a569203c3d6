-- The bench's sizes, each once (document 01, "What the bench holds" and "Sizes").
use Rattle.std.specs.Prelude.{ℕ, ◌+◌}

-- "A network of 1 to 16 XS1-L nodes"
abbrev pub nodes : ℕ
nodes = 16

-- "external links A..H (ports 0..7)"
abbrev pub links : ℕ
links = 8

-- "four from the switch to the tile"
abbrev pub tile_links : ℕ
tile_links = 4

-- "external links A..H (ports 0..7), four links from the tile to the switch (ports 8..11), .. replies leave by port 12"
abbrev pub first_tile_port : ℕ
first_tile_port = links

abbrev pub tile_ports : ℕ
tile_ports = 4

abbrev pub reply_port : ℕ
reply_port = first_tile_port + tile_ports

abbrev pub ports : ℕ
ports = reply_port + 1

-- how many there are: "channel-ends 0..31"
abbrev pub ends : ℕ
ends = 32

-- what a header or a destination can name, beside the sink: "a channel 0..31"
abbrev pub channels : ℕ
channels = 32

-- "channel-end input buffer: 8 tokens"
abbrev pub end_buffer : ℕ
end_buffer = 8

-- what a control unit keeps of a message (bench): a whole write has ten tokens before its END, so one more is one too many
abbrev pub unit_buffer : ℕ
unit_buffer = 11

-- "Channel 255 is the sink: it takes and forgets"
abbrev pub sink : ℕ
sink = 255

-- "network number 0..3"
abbrev pub networks : ℕ
networks = 4

-- "direction 0..15"
abbrev pub directions : ℕ
directions = 16

-- "its number is the 16-bit identifier written into its switch"
abbrev pub numbers : ℕ
numbers = 65536

-- "the highest differing bit, 15..0": each has an entry in the direction table
abbrev pub bits : ℕ
bits = 16
