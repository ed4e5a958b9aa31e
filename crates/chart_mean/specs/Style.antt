-- How a picture looks: fonts and colours, the sign of each kind of line, a white background, and a legend.
use Rattle.std.specs.Prelude.{ℕ, List, [], ◌∷◌, ◌++◌, codes}

-- lines one after the other, each ended by a line feed (10)
abbrev pub ended_lines : List (List ℕ) → List ℕ
ended_lines [] = []
ended_lines (line ∷ lines) = line ++ 10 ∷ ended_lines lines

-- the first lines inside a picture: its style sheet, the signs that marks use, the white background, and the legend
unfoldable pub style : List ℕ
style = ended_lines
    (codes "<style>"
    ∷ codes "text { font: 10px 'DejaVu Sans', Verdana, Arial, sans-serif; fill: #241f31 }"
    ∷ codes "g text { paint-order: stroke; stroke: #fff; stroke-width: 3px; stroke-linejoin: round }"
    ∷ codes ".member { font-size: 14px; font-weight: bold; text-anchor: end }"
    ∷ codes "g .number { font-size: 9px; fill: #5e5c64; text-anchor: middle }"
    ∷ codes ".axis, g line { stroke: #9a9996 }"
    ∷ codes ".untold rect { fill: #f6f5f4 }"
    ∷ codes ".view0 rect { fill: #d8e7f8 }"
    ∷ codes ".view1 rect { fill: #d9f0dc }"
    ∷ codes ".view2 rect { fill: #fbeccb }"
    ∷ codes ".view3 rect { fill: #eadcf3 }"
    ∷ codes ".view4 rect { fill: #fadcd8 }"
    ∷ codes ".view5 rect { fill: #d5eeee }"
    ∷ codes "g .arrow { stroke: #3d3846; stroke-width: 1.2; marker-end: url(#tip) }"
    ∷ codes ".stub path { stroke: #c01c28; stroke-dasharray: 3 2; fill: none; marker-end: url(#lost) }"
    ∷ codes ".breach text { fill: #c01c28; font-weight: bold }"
    ∷ codes ".breach use { stroke: #c01c28; stroke-width: 6 }"
    ∷ codes "</style>"
    ∷ codes "<defs>"
    ∷ (codes "<marker id='tip' viewBox='0 0 8 8' refX='11' refY='4' markerWidth='8' markerHeight='8' "
    ++ codes "orient='auto' markerUnits='userSpaceOnUse'>")
    ∷ codes "<path d='M0 0 8 4 0 8z' fill='#3d3846'/></marker>"
    ∷ codes "<marker id='lost' viewBox='-4 -4 8 8' markerWidth='8' markerHeight='8' markerUnits='userSpaceOnUse'>"
    ∷ codes "<path d='M-3-3 3 3M-3 3 3-3' stroke='#c01c28' stroke-width='1.5'/></marker>"
    ∷ codes "<circle id='event' r='3' fill='#241f31'/>"
    ∷ codes "<path id='idle' d='M0-3V3' stroke='#9a9996'/>"
    ∷ codes "<circle id='cast' r='5' fill='#1a5fb4'/>"
    ∷ codes "<path id='send' d='M0-6 6 0 0 6-6 0z' fill='#1b7a4b'/>"
    ∷ codes "<path id='packet' d='M-4-5 5 0-4 5z' fill='#613583'/>"
    ∷ codes "<path id='view' d='M0-12V12' stroke='#613583' stroke-width='3'/>"
    ∷ codes "<path id='out' d='M-5-5 5 5M-5 5 5-5' stroke='#a51d2d' stroke-width='3'/>"
    ∷ codes "<path id='block' d='M-3-6V6M3-6V6' stroke='#8a4b00' stroke-width='3'/>"
    ∷ codes "<path id='announce' d='M0-6 6 0 0 6-6 0z' fill='#fff' stroke='#613583' stroke-width='2'/>"
    ∷ codes "<g id='timer'><circle r='5' fill='#fff' stroke='#5e5c64' stroke-width='1.5'/>"
    ∷ codes "<path d='M0-3V0H3' fill='none' stroke='#5e5c64' stroke-width='1.5'/></g>"
    ∷ codes "<g id='refused'><circle r='6' fill='#c01c28'/><path d='M-3 0H3' stroke='#fff' stroke-width='2'/></g>"
    ∷ codes "<circle id='absent' r='5' fill='#fff' stroke='#5e5c64' stroke-width='1.5' stroke-dasharray='2'/>"
    ∷ (codes "<rect id='state' x='-5' y='-5' width='10' height='10' fill='#fff' stroke='#5e5c64' "
    ++ codes "stroke-width='1.5'/>")
    ∷ codes "<path id='cell' d='M0-4V4' stroke='#5e5c64' stroke-width='2'/>"
    ∷ codes "<path id='deaf' d='M-6 5 0-6 6 5z' fill='#fff' stroke='#c01c28' stroke-width='2'/>"
    ∷ codes "<path id='aside' d='M0-4V4' stroke='#5e5c64' stroke-width='2'/>"
    ∷ codes "</defs>"
    ∷ codes "<rect width='100%' height='100%' fill='#fff'/>"
    ∷ codes "<g class='legend'><use href='#event' x='46' y='16'/><text x='56' y='20'>event</text>"
    ∷ codes "<use href='#packet' x='106' y='16'/><text x='116' y='20'>packet sent</text>"
    ∷ codes "<use href='#cast' x='196' y='16'/><text x='206' y='20'>cast delivered</text>"
    ∷ codes "<use href='#send' x='296' y='16'/><text x='306' y='20'>send delivered</text>"
    ∷ codes "<use href='#refused' x='402' y='16'/><text x='412' y='20'>refused</text>"
    ∷ codes "<use href='#view' x='468' y='16'/><text x='476' y='20'>view</text>"
    ∷ codes "<use href='#block' x='518' y='16'/><text x='527' y='20'>block</text>"
    ∷ codes "<use href='#out' x='576' y='16'/><text x='586' y='20'>out</text>"
    ∷ codes "<use href='#timer' x='622' y='16'/><text x='632' y='20'>timer asked for</text>"
    ∷ codes "<g class='stub'><path d='M722 19l15-6'/></g><text x='746' y='20'>never arrived</text></g>"
    ∷ [])
