mod Layouts
