mod Mirrored
mod Sides
mod Cards
mod Standing
mod Serving
mod Equal
mod Beginning
